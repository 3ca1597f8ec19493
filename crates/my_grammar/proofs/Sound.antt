-- What is read from bytes is in them.
pub mod Reaching
pub mod Replies
pub mod WholeReplies
use Rattle.std.proofs.Common.{◌≡◌, ℕ, suc, zero, ◌+◌, ◌^◌, ◌≤◌, ◌<◌, List, [], ◌∷◌, ◌++◌, map, length, Bool, true, false, cond, get_or, refl, sym, ap, ◌∙◌, subst, arith, append_assoc}
use Rattle.std.proofs.Math.Seq.{get_or-append_right}
use Rattle.my_flags.specs.Sets.{deprecates_eof}
use Rattle.my_frame.specs.Chunks.{chunks}
use Rattle.my_frame.specs.Front.{Front, Waiting, Broken, Whole}
use Rattle.my_frame.specs.FrontLaws.{AreBytes}
use Rattle.my_frame.proofs.Meanings.{whole_stands}
use Rattle.my_reply.specs.declared.column.Column.{Column as ColumnPacket}
use Rattle.my_grammar.specs.declared.spot.RowFormat.{RowFormat}
use Rattle.my_grammar.specs.declared.spot.Spot.{Spot}
use Rattle.my_grammar.specs.declared.spot.Spot.TheVariants as spots
use Rattle.my_grammar.specs.declared.spot.Kind.{Kind}
use Rattle.my_grammar.specs.declared.spot.Kind.TheVariants.{Bad}
use Rattle.my_grammar.specs.Contexts.{is_bad}
use Rattle.my_grammar.specs.Kinds.{kind_by}
use Rattle.my_grammar.specs.Talk.{Talk, Start, Unwelcome, Greeted, Asked, Replied, Changing, Queried, Preparing, Silent, Fits, turns, number_of, server_bytes, packets_of, context_of, described, limit_of, origin, login_in, secret_in}
use Rattle.my_grammar.specs.Growth.{grow, Grows}
use Rattle.my_grammar.specs.Cut.{Read, Trailing, Cut, front_of, kind_of, read_payload, read_front, read_within, read_from, rest_in_front, is_idle, is_over, rest_of, onto, cut_after, cut}
use Rattle.my_grammar.specs.CutLaws.{StopsAt, IsRead, bytes_of, AreOver, IsCut}
use Rattle.my_grammar.proofs.Cutting.Fronts.{takes_whole}
use Rattle.my_grammar.specs.Sets.{asking_in}
use Rattle.my_grammar.proofs.Commands.{commands_silent}
use Rattle.my_grammar.proofs.Growth.{grows, reads, any_login}
use Rattle.my_grammar.proofs.Sound.Reaching.{reaches}

-- bytes after others are bytes
bytes_after : (a b bytes : List ℕ) → bytes ≡ a ++ b → AreBytes bytes → AreBytes b
bytes_after a b bytes e w = record {
  below = λ k.
      let below : get_or bytes (length a + k) 0 < 2 ^ 8 = w.below (length a + k) in
      let le : length a ≤ length a + k = omega arith in
      let same : get_or bytes (length a + k) 0 ≡ get_or b k 0 = ap (λ (x : List ℕ). get_or x (length a + k) 0) e ∙ get_or-append_right a b (length a + k) 0 le ∙ ap (λ i. get_or b i 0) (omega arith) in
      subst (λ x. x < 2 ^ 8) same below;
}

-- nothing was read
none_read : (t : Talk) (bytes : List ℕ) → Fits t → StopsAt t (front_of t bytes) → IsRead t bytes (record { talk = t; rest = bytes })
none_read t bytes fits stops = record { fits = fits; origin_is = refl; spelled = refl; newer = []; packets_are = refl; stops = stops }

-- a payload was read, and then what was read after it
one_read : (t : Talk) (bytes p rest : List ℕ) (next : ℕ) (k : Kind) (r : Read) → AreBytes bytes → front_of t bytes ≡ Whole p rest next → Grows t k p → IsRead (grow k t p) rest r → IsRead t bytes r
one_read t bytes p rest next k r are e gr w =
    let n = number_of (turns t) in
    let stands = whole_stands n (limit_of t) bytes p rest next are e in
    let more : server_bytes (turns (grow k t p)) ≡ server_bytes (turns t) ++ chunks p n = ap server_bytes (gr.turns_are any_login) ∙ (reads (login_in any_login t) (secret_in t) k p (turns t)).server in
    record {
      fits = w.fits;
      origin_is = w.origin_is ∙ gr.origin_is;
      spelled = w.spelled ∙ ap (λ bs. bs ++ rest) more ∙ append_assoc (server_bytes (turns t)) (chunks p n) rest ∙ ap (λ bs. server_bytes (turns t) ++ bs) (sym stands.spelled);
      newer = w.newer ++ record { kind = k; payload = p } ∷ [];
      packets_are = w.packets_are ∙ ap (λ ps. w.newer ++ ps) gr.packets_are ∙ sym (append_assoc w.newer (record { kind = k; payload = p } ∷ []) (packets_of t));
      stops = w.stops;
    }

is_read : (f : ℕ) (t : Talk) (bytes : List ℕ) → length bytes ≤ f → AreBytes bytes → Fits t → IsRead t bytes (read_within f t bytes)
unfolding read_within
is_read zero t bytes few are fits = none_read t bytes fits (empty (front_of t bytes) refl)
  where
    empty : (x : Front) → front_of t bytes ≡ x → StopsAt t x
    empty Waiting e = tt
    empty (Broken fault) e = tt
    empty (Whole p rest next) e = absurd (omega (arith, (takes_whole (number_of (turns t)) (limit_of t) bytes p rest next e).shorter))
is_read (suc f) t bytes few are fits = by_front (λ u rest a b c. is_read f u rest a b c) (front_of t bytes) refl
  where
    by_kind : ((u : Talk) (rest : List ℕ) → length rest ≤ f → AreBytes rest → Fits u → IsRead u rest (read_within f u rest)) → (p rest : List ℕ) (next : ℕ) → front_of t bytes ≡ Whole p rest next → (bad : Bool) → is_bad (kind_of t p) ≡ bad → IsRead t bytes (cond bad (let r : Read = record { talk = t; rest = bytes } in r) (read_within f (grow (kind_of t p) t p) rest))
    by_kind go p rest next e true b = none_read t bytes fits (subst (λ x. StopsAt t x) (sym e) b)
    by_kind go p rest next e false b =
        let taken = takes_whole (number_of (turns t)) (limit_of t) bytes p rest next e in
        let stands = whole_stands (number_of (turns t)) (limit_of t) bytes p rest next are e in
        let gr = grows t (kind_of t p) p refl b stands.within fits in
        one_read t bytes p rest next (kind_of t p) (read_within f (grow (kind_of t p) t p) rest) are e gr (go (grow (kind_of t p) t p) rest (omega (arith, taken.shorter)) (bytes_after _ rest bytes stands.spelled are) gr.fits)

    by_front : ((u : Talk) (rest : List ℕ) → length rest ≤ f → AreBytes rest → Fits u → IsRead u rest (read_within f u rest)) → (x : Front) → front_of t bytes ≡ x → IsRead t bytes (read_front t bytes x (read_within f))
    by_front go Waiting e = none_read t bytes fits (subst (λ x. StopsAt t x) (sym e) tt)
    by_front go (Broken fault) e = none_read t bytes fits (subst (λ x. StopsAt t x) (sym e) tt)
    by_front go (Whole p rest next) e = by_kind go p rest next e (is_bad (kind_of t p)) refl

pub sound : (t : Talk) (bytes : List ℕ) → AreBytes bytes → Fits t → IsRead t bytes (read_from t bytes)
unfolding read_from
sound t bytes are fits = is_read (length bytes) t bytes (omega arith) are fits

origin_fits : (t : Talk) → Fits (origin t)
origin_fits (Start login) = record { kinds = tt; within = tt }
origin_fits (Unwelcome login p) = record { kinds = tt; within = tt }
origin_fits (Greeted login p offer chain) = record { kinds = tt; within = tt }
origin_fits (Asked terms c) = record { kinds = tt; within = tt }
origin_fits (Replied terms c last kind) = record { kinds = tt; within = tt }
origin_fits (Changing terms secret stand c chain) = record { kinds = tt; within = tt }
origin_fits (Queried terms c sets) = record { kinds = tt; within = tt }
origin_fits (Preparing terms c r) = record { kinds = tt; within = tt }
origin_fits (Silent terms c) = record { kinds = tt; within = tt }

-- an exchange as it began holds nothing of the server's
record Begins (t : Talk) : Type 0 where
  bytes : server_bytes (turns (origin t)) ≡ []
  again : origin (origin t) ≡ origin t

begins : (t : Talk) → Begins t
begins (Start login) = record { bytes = refl; again = refl }
begins (Unwelcome login p) = record { bytes = refl; again = refl }
begins (Greeted login p offer chain) = record { bytes = refl; again = refl }
begins (Asked terms c) = record { bytes = refl; again = refl }
begins (Replied terms c last kind) = record { bytes = refl; again = refl }
begins (Changing terms secret stand c chain) = record { bytes = refl; again = refl }
begins (Queried terms c sets) = record { bytes = commands_silent c (asking_in sets); again = refl }
begins (Preparing terms c r) = record { bytes = refl; again = refl }
begins (Silent terms c) = record { bytes = refl; again = refl }

over_more : (t : Talk) (ts : List Talk) → is_over t ≡ true → AreOver ts → AreOver (t ∷ ts)
over_more t [] e w = tt
over_more t (u ∷ ts) e w = (e, w)

bytes_of-front : (bytes : List ℕ) (x : Front) → bytes_of (rest_in_front bytes x) ≡ bytes
bytes_of-front bytes Waiting = refl
bytes_of-front bytes (Broken fault) = refl
bytes_of-front bytes (Whole p rest next) = refl

bytes_of-rest : (bytes : List ℕ) (x : Front) (over : Bool) → bytes_of (cond over (Trailing bytes) (rest_in_front bytes x)) ≡ bytes
bytes_of-rest bytes x true = refl
bytes_of-rest bytes x false = bytes_of-front bytes x

-- one exchange more in front
cut_more : (t : Talk) (ts : List Talk) (bytes : List ℕ) (r : Read) → AreBytes bytes → IsRead (origin t) bytes r → (AreBytes r.rest → IsCut ts r.rest (cut (map origin ts) r.rest)) → IsCut (t ∷ ts) bytes (cut_after r (cut (map origin ts)))
cut_more t ts bytes r are w following = by_over (is_over r.talk) refl
  where
    spelled : server_bytes (turns r.talk) ++ r.rest ≡ bytes
    spelled = w.spelled ∙ ap (λ bs. bs ++ bytes) (begins t).bytes

    by_over : (b : Bool) → is_over r.talk ≡ b → IsCut (t ∷ ts) bytes (cond b (onto r.talk (cut (map origin ts) r.rest)) (let c : Cut = record { talks = r.talk ∷ []; rest = rest_of r } in c))
    by_over true e =
        let c = following (bytes_after _ r.rest bytes (sym spelled) are) in
        record {
          fit = (w.fits, c.fit);
          later = c.later;
          began = ap (λ o. o ∷ map origin ts) (sym (w.origin_is ∙ (begins t).again)) ∙ ap (λ os. origin r.talk ∷ os) c.began;
          over = over_more r.talk _ e c.over;
          spelled = ap (λ bs. server_bytes (turns r.talk) ++ bs) c.spelled ∙ spelled;
        }
    by_over false e = record {
      fit = (w.fits, tt);
      later = map origin ts;
      began = ap (λ o. o ∷ map origin ts) (sym (w.origin_is ∙ (begins t).again));
      over = tt;
      spelled = ap (λ bs. server_bytes (turns r.talk) ++ bs) (bytes_of-rest r.rest (front_of r.talk r.rest) (is_over r.talk)) ∙ spelled;
    }

pub cut_is_sound : (ts : List Talk) (bytes : List ℕ) → AreBytes bytes → IsCut ts bytes (cut (map origin ts) bytes)
cut_is_sound [] bytes are = record { fit = tt; later = []; began = refl; over = tt; spelled = refl }
cut_is_sound (t ∷ ts) bytes are = cut_more t ts bytes (read_from (origin t) bytes) are (sound (origin t) bytes are (origin_fits t)) (λ rest. cut_is_sound ts _ rest)

-- an exchange's bytes, and others after
pub exchange_is_cut : (t : Talk) (ts : List Talk) (rest : List ℕ) → Fits t → cut (origin t ∷ ts) (server_bytes (turns t) ++ rest) ≡ cut_after (read_from t rest) (cut ts)
exchange_is_cut t ts rest fits = ap (λ (r : Read). cut_after r (cut ts)) ((reaches t fits).reaches rest)

idle_kind : (s : Spot) (f : RowFormat) (d : Bool) (n : ℕ) (cs : List ColumnPacket) (p : List ℕ) → is_idle s ≡ true → kind_by s f d n cs p ≡ Bad
idle_kind spots.Idle f d n cs p e = refl
idle_kind (spots.Greeting rules) f d n cs p e = cc
idle_kind (spots.Authentication stand) f d n cs p e = cc
idle_kind spots.Single f d n cs p e = cc
idle_kind spots.Head f d n cs p e = cc
idle_kind spots.Further f d n cs p e = cc
idle_kind (spots.Columns left) f d n cs p e = cc
idle_kind spots.ColumnsEnd f d n cs p e = cc
idle_kind spots.Rows f d n cs p e = cc
idle_kind spots.Prepare f d n cs p e = cc
idle_kind (spots.Parameters left columns) f d n cs p e = cc
idle_kind (spots.ParametersEnd columns) f d n cs p e = cc
idle_kind (spots.Fields left) f d n cs p e = cc
idle_kind spots.FieldsEnd f d n cs p e = cc

stops_over : (t : Talk) (bytes : List ℕ) (x : Front) (go : Talk → List ℕ → Read) → is_over t ≡ true → read_front t bytes x go ≡ record { talk = t; rest = bytes }
stops_over t bytes Waiting go e = refl
stops_over t bytes (Broken fault) go e = refl
stops_over t bytes (Whole p rest next) go e = ap (λ k. read_payload t bytes p rest k go) (idle_kind (context_of t).spot (context_of t).rows (deprecates_eof (context_of t).terms.kept) (context_of t).columns (described t) p e)

over_within : (f : ℕ) (t : Talk) (bytes : List ℕ) → is_over t ≡ true → read_within f t bytes ≡ record { talk = t; rest = bytes }
unfolding read_within
over_within zero t bytes e = refl
over_within (suc f) t bytes e = stops_over t bytes (front_of t bytes) (read_within f) e

-- nothing is read after an exchange that is over
pub over_reads_none : (t : Talk) (bytes : List ℕ) → is_over t ≡ true → read_from t bytes ≡ record { talk = t; rest = bytes }
unfolding read_from
over_reads_none t bytes e = over_within (length bytes) t bytes e

pub over_is_cut : (t : Talk) (ts : List Talk) (rest : List ℕ) → Fits t → is_over t ≡ true → cut (origin t ∷ ts) (server_bytes (turns t) ++ rest) ≡ onto t (cut ts rest)
over_is_cut t ts rest fits over =
    exchange_is_cut t ts rest fits ∙ ap (λ (r : Read). cut_after r (cut ts)) (over_reads_none t rest over) ∙ ap (λ (b : Bool). cond b (onto t (cut ts rest)) (let c : Cut = record { talks = t ∷ []; rest = rest_of (record { talk = t; rest = rest }) } in c)) over
