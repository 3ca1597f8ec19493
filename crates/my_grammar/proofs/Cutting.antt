-- What was read of an exchange is what the grammar finds in its bytes.
pub mod CutSteps
pub mod Fronts
pub mod InFronts
use Rattle.std.proofs.Common.{◌≡◌, ℕ, suc, zero, ◌≤◌, ◌<◌, List, [], ◌++◌, length, Bool, true, false, cond, refl, sym, ap, ◌∙◌, arith, append_assoc}
use Rattle.my_frame.specs.Chunks.{chunks, number_after_payload}
use Rattle.my_frame.specs.Front.{Front, Waiting, Broken, Whole}
use Rattle.my_frame.proofs.Fronts.{found}
use Rattle.my_grammar.specs.declared.spot.Kind.{Kind}
use Rattle.my_grammar.specs.Contexts.{is_bad}
use Rattle.my_grammar.specs.Kinds.{kind_there}
use Rattle.my_grammar.specs.Talk.{Talk, Fits, turns, number_of, server_bytes, context_of, described, limit_of, origin, login_in, secret_in}
use Rattle.my_grammar.specs.Growth.{grow, Grows}
use Rattle.my_grammar.specs.Cut.{Read, front_of, kind_of, read_payload, read_front, read_within, read_from}
use Rattle.my_grammar.specs.CutLaws.{StopsAt}
use Rattle.my_grammar.proofs.Cutting.Fronts.{takes_whole}
use Rattle.my_grammar.proofs.Growth.{grows, reads, any_login}

-- how many payloads are read at most doesn't matter, where the bytes can't hold that many
enough : (f g : ℕ) (t : Talk) (bytes : List ℕ) → length bytes ≤ f → length bytes ≤ g → read_within f t bytes ≡ read_within g t bytes
unfolding read_within
enough zero zero t bytes a b = refl
enough zero (suc g) t bytes a b = sym (none (front_of t bytes) refl)
  where
    none : (x : Front) → front_of t bytes ≡ x → read_front t bytes x (read_within g) ≡ record { talk = t; rest = bytes }
    none Waiting e = refl
    none (Broken fault) e = refl
    none (Whole p rest next) e = absurd (omega (arith, (takes_whole (number_of (turns t)) (limit_of t) bytes p rest next e).shorter))
enough (suc f) zero t bytes a b = none (front_of t bytes) refl
  where
    none : (x : Front) → front_of t bytes ≡ x → read_front t bytes x (read_within f) ≡ record { talk = t; rest = bytes }
    none Waiting e = refl
    none (Broken fault) e = refl
    none (Whole p rest next) e = absurd (omega (arith, (takes_whole (number_of (turns t)) (limit_of t) bytes p rest next e).shorter))
enough (suc f) (suc g) t bytes a b = same (λ u rest c d. enough f g u rest c d) (front_of t bytes) refl
  where
    by_kind : ((u : Talk) (rest : List ℕ) → length rest ≤ f → length rest ≤ g → read_within f u rest ≡ read_within g u rest) → (p rest : List ℕ) → length rest < length bytes → (k : Kind) (bad : Bool) → cond bad (let r : Read = record { talk = t; rest = bytes } in r) (read_within f (grow k t p) rest) ≡ cond bad (record { talk = t; rest = bytes }) (read_within g (grow k t p) rest)
    by_kind go p rest short k true = refl
    by_kind go p rest short k false = go (grow k t p) rest (omega arith) (omega arith)

    same : ((u : Talk) (rest : List ℕ) → length rest ≤ f → length rest ≤ g → read_within f u rest ≡ read_within g u rest) → (x : Front) → front_of t bytes ≡ x → read_front t bytes x (read_within f) ≡ read_front t bytes x (read_within g)
    same go Waiting e = refl
    same go (Broken fault) e = refl
    same go (Whole p rest next) e = by_kind go p rest (takes_whole (number_of (turns t)) (limit_of t) bytes p rest next e).shorter (kind_of t p) (is_bad (kind_of t p))

-- the bytes begin with one payload that fits
read_one : (f : ℕ) (t : Talk) (bytes p rest : List ℕ) (next : ℕ) (k : Kind) → front_of t bytes ≡ Whole p rest next → kind_of t p ≡ k → is_bad k ≡ false → read_within (suc f) t bytes ≡ read_within f (grow k t p) rest
unfolding read_within
read_one f t bytes p rest next k e is good =
    ap (λ (x : Front). read_front t bytes x (read_within f)) e ∙ ap (λ (k : Kind). read_payload t bytes p rest k (read_within f)) is ∙ ap (λ (b : Bool). cond b (let r : Read = record { talk = t; rest = bytes } in r) (read_within f (grow k t p) rest)) good

pub reads_one : (t : Talk) (bytes p rest : List ℕ) (next : ℕ) (k : Kind) → front_of t bytes ≡ Whole p rest next → kind_of t p ≡ k → is_bad k ≡ false → read_from t bytes ≡ read_from (grow k t p) rest
unfolding read_from
reads_one t bytes p rest next k e is good =
    let w = (takes_whole (number_of (turns t)) (limit_of t) bytes p rest next e).shorter in
    enough (length bytes) (suc (length bytes)) t bytes (omega arith) (omega arith) ∙ read_one (length bytes) t bytes p rest next k e is good ∙ enough (length bytes) (length rest) (grow k t p) rest (omega arith) (omega arith)

-- reading begins with the exchange as it began, and comes to the exchange as it is
pub record Reaches (t : Talk) : Type 0 where
  pub reaches : (rest : List ℕ) → read_from (origin t) (server_bytes (turns t) ++ rest) ≡ read_from t rest

pub at_origin : (t : Talk) → origin t ≡ t → server_bytes (turns t) ≡ [] → Reaches t
at_origin t o none = record { reaches = λ rest. ap (λ (u : Talk). read_from u (server_bytes (turns t) ++ rest)) o ∙ ap (λ (bs : List ℕ). read_from t (bs ++ rest)) none }

-- a payload more
pub goes_on : (t : Talk) (k : Kind) (p : List ℕ) → kind_there (context_of t) (described t) p ≡ k → is_bad k ≡ false → length p ≤ limit_of t → Fits t → Reaches t → Reaches (grow k t p)
goes_on t k p e good short fits r =
    let gr : Grows t k p = grows t k p e good short fits in
    let n = number_of (turns t) in
    record {
      reaches = λ rest.
          let bytes : server_bytes (turns (grow k t p)) ++ rest ≡ server_bytes (turns t) ++ (chunks p n ++ rest) = ap (λ bs. bs ++ rest) (ap server_bytes (gr.turns_are any_login) ∙ (reads (login_in any_login t) (secret_in t) k p (turns t)).server) ∙ append_assoc (server_bytes (turns t)) (chunks p n) rest in
          ap (λ (u : Talk). read_from u (server_bytes (turns (grow k t p)) ++ rest)) gr.origin_is ∙ ap (λ (bs : List ℕ). read_from (origin t) bs) bytes ∙ r.reaches (chunks p n ++ rest) ∙ reads_one t (chunks p n ++ rest) p rest (number_after_payload p n) k (found p rest n (limit_of t) short) e good;
    }

-- where nothing may be read, reading gives what there is
stopped : (t : Talk) (bytes : List ℕ) (x : Front) (go : Talk → List ℕ → Read) → StopsAt t x → read_front t bytes x go ≡ record { talk = t; rest = bytes }
stopped t bytes Waiting go s = refl
stopped t bytes (Broken fault) go s = refl
stopped t bytes (Whole p rest next) go s = ap (λ (b : Bool). cond b (let r : Read = record { talk = t; rest = bytes } in r) (go (grow (kind_of t p) t p) rest)) s

pub stopped_within : (f : ℕ) (t : Talk) (bytes : List ℕ) → StopsAt t (front_of t bytes) → read_within f t bytes ≡ record { talk = t; rest = bytes }
unfolding read_within
stopped_within zero t bytes s = refl
stopped_within (suc f) t bytes s = stopped t bytes (front_of t bytes) (read_within f) s

pub stops_reads_none : (t : Talk) (bytes : List ℕ) → StopsAt t (front_of t bytes) → read_from t bytes ≡ record { talk = t; rest = bytes }
unfolding read_from
stops_reads_none t bytes s = stopped_within (length bytes) t bytes s
