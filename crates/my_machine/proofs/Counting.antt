-- The parts of calls by their places, query by query and list by list.
use Rattle.std.proofs.Common.{◌≡◌, ℕ, zero, suc, ◌+◌, ◌-◌, ◌*◌, ◌<◌, ◌≤◌, List, [], ◌∷◌, length, drop, slice_get, nat_lt, Bool, true, false, Option, Some, None, refl, sym, ap, ◌∙◌, subst, arith}
use Rattle.std.proofs.lemmas.Bool.Decides.{nat_tests}
use Rattle.my_params.specs.declared.params.Params.{Params}
use Rattle.my_grammar.specs.declared.login.Login.{Login}
use Rattle.my_reading.specs.declared.call.Call.{Call}
use Rattle.my_reading.specs.Commands.{arranging_texts}
use Rattle.my_reading.specs.Course.{Part, All, Check, Command, Head, Learn, Run, Text, parts_of_batch, parts_of_lists, parts_of_queries, parts_of_texts}
use Rattle.my_machine.specs.declared.part.Part.{Part as CodePart}
use Rattle.my_machine.specs.declared.part.Part.TheVariants as parts
use Rattle.my_machine.specs.Parts.{AreLists, IsFirst, IsParams, IsPart}

-- nothing is left of nothing
none_left : (n : ℕ) → drop {A = Part} n [] ≡ []
none_left zero = refl
none_left (suc n) = refl

all_left : (ps : List Part) → drop 0 ps ≡ ps
all_left [] = refl
all_left (p ∷ ps) = refl

-- parts are left out in two steps
drop_sum : (m n : ℕ) (ps : List Part) → drop (m + n) ps ≡ drop n (drop m ps)
drop_sum zero n ps = let same : zero + n ≡ n = omega arith in ap (λ i. drop i ps) same ∙ ap (drop n) (sym (all_left ps))
drop_sum (suc m) n [] = none_left (suc m + n) ∙ sym (none_left n)
drop_sum (suc m) n (p ∷ ps) = let one : suc m + n ≡ suc (m + n) = omega arith in ap (λ i. drop i (p ∷ ps)) one ∙ drop_sum m n ps

-- of one part nothing is left
short_left : (m : ℕ) (ps : List Part) → drop 1 ps ≡ [] → drop (suc m) ps ≡ []
short_left m [] e = none_left (suc m)
short_left m (p ∷ []) e = none_left m
short_left m (p ∷ q ∷ ps) e = absurd cc

there : (xs : List (List ℕ)) (k : ℕ) → k < length xs → (x : List ℕ) × (slice_get xs k ≡ Some x)
there [] k h = absurd (omega arith)
there (x ∷ xs) zero h = (x, refl)
there (x ∷ xs) (suc k) h = there xs k (omega arith)

module _ (login : Login) (call : Call) where
  -- parts that begin with this one
  first_of : (part : CodePart) (x : Part) (ps qs : List Part) → ps ≡ x ∷ qs → IsPart login call part x → IsFirst login call (Some part) ps
  first_of part x ps qs e w = subst (IsFirst login call (Some part)) (sym e) w

  none_of : (ps : List Part) → ps ≡ [] → IsFirst login call None ps
  none_of ps e = subst (IsFirst login call None) (sym e) tt

  module _ (tail : List Part) where
    -- the parts from the k-th query on
    at_query : (texts : List (List ℕ)) (k : ℕ) (text : List ℕ) → slice_get texts k ≡ Some text → (more : List Part) × (drop (2 * k) (parts_of_queries texts tail) ≡ All ∷ Text text ∷ more)
    at_query [] k text e = absurd cc
    at_query (t ∷ texts) zero text e = let same : t ≡ text = cc in (parts_of_queries texts tail, ap (λ x. All ∷ Text x ∷ parts_of_queries texts tail) same)
    at_query (t ∷ texts) (suc k) text e =
        let two : 2 * suc k ≡ suc (suc (2 * k)) = omega arith in
        let rest = at_query texts k text e in
        (rest.0, ap (λ m. drop m (All ∷ Text t ∷ parts_of_queries texts tail)) two ∙ rest.1)

    -- and after them
    past_queries : (texts : List (List ℕ)) (n : ℕ) → drop (2 * length texts + n) (parts_of_queries texts tail) ≡ drop n (All ∷ tail)
    past_queries [] n = let none : 2 * length {A = List ℕ} [] + n ≡ n = omega arith in ap (λ m. drop m (All ∷ tail)) none
    past_queries (text ∷ texts) n =
        let two : 2 * length (text ∷ texts) + n ≡ suc (suc (2 * length texts + n)) = omega arith in
        ap (λ m. drop m (All ∷ Text text ∷ parts_of_queries texts tail)) two ∙ past_queries texts n

    module _ (texts : List (List ℕ)) (n k : ℕ) where
      before_query : n ≡ 2 * k → k < length texts → IsFirst login call (Some parts.All) (drop n (parts_of_queries texts tail))
      before_query e h =
          let x = there texts k h in
          let at = at_query texts k x.0 x.1 in
          first_of parts.All All (drop n (parts_of_queries texts tail)) (Text x.0 ∷ at.0) (ap (λ m. drop m (parts_of_queries texts tail)) e ∙ at.1) refl

      pub query_there : (part : CodePart) → n ≡ 2 * k + 1 → k < length texts → ((x : List ℕ) → slice_get texts k ≡ Some x → IsPart login call part (Text x))
          → IsFirst login call (Some part) (drop n (parts_of_queries texts tail))
      query_there part e h is =
          let x = there texts k h in
          let at = at_query texts k x.0 x.1 in
          first_of part (Text x.0) (drop n (parts_of_queries texts tail)) at.0
          (ap (λ m. drop m (parts_of_queries texts tail)) e ∙ drop_sum (2 * k) 1 (parts_of_queries texts tail) ∙ ap (drop 1) at.1) (is x.0 x.1)

    after_queries : (texts : List (List ℕ)) (n m : ℕ) (part : Option CodePart) → n ≡ 2 * length texts + m → IsFirst login call part (drop m (All ∷ tail)) → IsFirst login call part (drop n (parts_of_queries texts tail))
    after_queries texts n m part e w = subst (IsFirst login call part) (sym (ap (λ i. drop i (parts_of_queries texts tail)) e ∙ past_queries texts m)) w

    pub all_there : (texts : List (List ℕ)) (n k : ℕ) → n ≡ 2 * k → k ≤ length texts → IsFirst login call (Some parts.All) (drop n (parts_of_queries texts tail))
    all_there texts n k e h = by_less (nat_lt k (length texts)) refl
      where
        by_less : (b : Bool) → nat_lt k (length texts) ≡ b → IsFirst login call (Some parts.All) (drop n (parts_of_queries texts tail))
        by_less true f = before_query texts n k e (grind (arith, nat_tests))
        by_less false f = after_queries texts n 0 (Some parts.All) (grind (arith, nat_tests)) refl

    pub after_last : (texts : List (List ℕ)) (n : ℕ) (last : Option CodePart) → n ≡ 2 * length texts + 1 → IsFirst login call last tail → IsFirst login call last (drop n (parts_of_queries texts tail))
    after_last texts n last e w = after_queries texts n 1 last e (subst (IsFirst login call last) (sym (all_left tail)) w)

    pub after_all : (texts : List (List ℕ)) (n m : ℕ) → n ≡ 2 * length texts + suc (suc m) → drop 1 tail ≡ [] → IsFirst login call None (drop n (parts_of_queries texts tail))
    after_all texts n m e short = after_queries texts n (suc (suc m)) None e (none_of (drop (suc m) tail) (short_left m tail short))

  -- the parts of connecting, from the k-th query on
  at_text : (texts : List (List ℕ)) (k : ℕ) → k < length texts → (more : List Part) × (drop (2 * k) (parts_of_texts texts) ≡ Command ∷ All ∷ more)
  at_text [] k h = absurd (omega arith)
  at_text (text ∷ texts) zero h = (parts_of_texts texts, refl)
  at_text (text ∷ texts) (suc k) h =
      let two : 2 * suc k ≡ suc (suc (2 * k)) = omega arith in
      let rest = at_text texts k (omega arith) in
      (rest.0, ap (λ m. drop m (Command ∷ All ∷ parts_of_texts texts)) two ∙ rest.1)

  past_texts : (texts : List (List ℕ)) (n : ℕ) → 2 * length texts ≤ n → drop n (parts_of_texts texts) ≡ []
  past_texts [] n h = none_left n
  past_texts (text ∷ texts) zero h = absurd (omega arith)
  past_texts (text ∷ texts) (suc zero) h = absurd (omega arith)
  past_texts (text ∷ texts) (suc (suc n)) h = past_texts texts n (omega arith)

  module _ (n k : ℕ) where
    pub text_there : n ≡ suc (2 * k) → k < length (arranging_texts login) → IsFirst login call (Some parts.Command) (drop n (All ∷ parts_of_texts (arranging_texts login)))
    text_there e h =
        let at = at_text (arranging_texts login) k h in
        first_of parts.Command Command (drop n (All ∷ parts_of_texts (arranging_texts login))) (All ∷ at.0)
        (ap (λ m. drop m (All ∷ parts_of_texts (arranging_texts login))) e ∙ at.1) refl

    pub after_text : n ≡ suc (2 * k + 1) → k < length (arranging_texts login) → IsFirst login call (Some parts.All) (drop n (All ∷ parts_of_texts (arranging_texts login)))
    after_text e h =
        let at = at_text (arranging_texts login) k h in
        first_of parts.All All (drop n (All ∷ parts_of_texts (arranging_texts login))) at.0
        (ap (λ m. drop m (All ∷ parts_of_texts (arranging_texts login))) e ∙ drop_sum (2 * k) 1 (parts_of_texts (arranging_texts login)) ∙ ap (drop 1) at.1) refl

    pub after_texts : n ≡ suc k → 2 * length (arranging_texts login) ≤ k → IsFirst login call None (drop n (All ∷ parts_of_texts (arranging_texts login)))
    after_texts e h =
        none_of (drop n (All ∷ parts_of_texts (arranging_texts login)))
        (ap (λ m. drop m (All ∷ parts_of_texts (arranging_texts login))) e ∙ past_texts (arranging_texts login) k h)

-- the parts of a batch from the k-th of these executions on
at_list : (lists : List Params) (k : ℕ) (params : Params) → slice_get lists k ≡ Some params
    → (more : List Part) × (drop (6 * k) (parts_of_lists lists) ≡ Check params ∷ All ∷ Run params ∷ Head ∷ Learn ∷ All ∷ more)
at_list [] k params e = absurd cc
at_list (first ∷ lists) zero params e = let same : first ≡ params = cc in (parts_of_lists lists, ap (λ x. Check x ∷ All ∷ Run x ∷ Head ∷ Learn ∷ All ∷ parts_of_lists lists) same)
at_list (first ∷ lists) (suc k) params e =
    let six : 6 * suc k ≡ suc (suc (suc (suc (suc (suc (6 * k)))))) = omega arith in
    let rest = at_list lists k params e in
    (rest.0, ap (λ m. drop m (Check first ∷ All ∷ Run first ∷ Head ∷ Learn ∷ All ∷ parts_of_lists lists)) six ∙ rest.1)

past_lists : (lists : List Params) (n : ℕ) → 6 * length lists ≤ n → drop n (parts_of_lists lists) ≡ []
past_lists [] n h = none_left n
past_lists (first ∷ lists) zero h = absurd (omega arith)
past_lists (first ∷ lists) (suc zero) h = absurd (omega arith)
past_lists (first ∷ lists) (suc (suc zero)) h = absurd (omega arith)
past_lists (first ∷ lists) (suc (suc (suc zero))) h = absurd (omega arith)
past_lists (first ∷ lists) (suc (suc (suc (suc zero)))) h = absurd (omega arith)
past_lists (first ∷ lists) (suc (suc (suc (suc (suc zero))))) h = absurd (omega arith)
past_lists (first ∷ lists) (suc (suc (suc (suc (suc (suc n)))))) h = past_lists lists n (omega arith)

there_lists : (xs : List Params) (k : ℕ) → k < length xs → (x : Params) × (slice_get xs k ≡ Some x)
there_lists [] k h = absurd (omega arith)
there_lists (x ∷ xs) zero h = (x, refl)
there_lists (x ∷ xs) (suc k) h = there_lists xs k (omega arith)

-- without the first one
rest_left : (lists : List Params) → drop 0 lists ≡ lists
rest_left [] = refl
rest_left (first ∷ lists) = refl

next_list : (lists : List Params) (k : ℕ) → slice_get (drop 1 lists) k ≡ slice_get lists (suc k)
next_list [] k = refl
next_list (first ∷ lists) k = ap (λ (xs : List Params). slice_get xs k) (rest_left lists)

fewer : (lists : List Params) (k : ℕ) → suc k < length lists → k < length (drop 1 lists)
fewer [] k h = absurd (omega arith)
fewer (first ∷ lists) k h = let same = ap length (rest_left lists) in omega (arith, h, same)

no_fewer : (lists : List Params) (k : ℕ) → length lists ≤ suc k → length (drop 1 lists) ≤ k
no_fewer [] k h = omega arith
no_fewer (first ∷ lists) k h = let same = ap length (rest_left lists) in omega (arith, h, same)

-- the part of the execution at this place, r parts after its first
abbrev code_at : ℕ → ℕ → CodePart
code_at place zero = parts.Check place
code_at place (suc (suc zero)) = parts.Run place
code_at place (suc (suc (suc zero))) = parts.Head
code_at place (suc (suc (suc (suc zero)))) = parts.Learn
code_at place r = parts.All

module _ (login : Login) (call : Call) (lists : List Params) (is : AreLists call lists) where
  pub params_there : (place : ℕ) (params : Params) → slice_get lists place ≡ Some params → IsParams call place params
  params_there place params e = record { executes = is.executes; listed = is.listed place ∙ e }

  module _ (n k : ℕ) where
    part_there : (params : Params) (more : List Part) (r : ℕ) → r < 6 → slice_get lists (suc k) ≡ Some params
        → IsFirst login call (Some (code_at (suc k) r)) (drop r (Check params ∷ All ∷ Run params ∷ Head ∷ Learn ∷ All ∷ more))
    part_there params more zero h e = (params, params_there (suc k) params e, refl)
    part_there params more (suc zero) h e = refl
    part_there params more (suc (suc zero)) h e = (params, params_there (suc k) params e, refl)
    part_there params more (suc (suc (suc zero))) h e = refl
    part_there params more (suc (suc (suc (suc zero)))) h e = refl
    part_there params more (suc (suc (suc (suc (suc zero))))) h e = refl
    part_there params more (suc (suc (suc (suc (suc (suc r)))))) h e = absurd (omega (arith, h))

    pub list_there : (r : ℕ) → n ≡ 6 * k + r → r < 6 → suc k < length lists → IsFirst login call (Some (code_at (suc k) r)) (drop n (parts_of_lists (drop 1 lists)))
    list_there r e h some =
        let x = there_lists (drop 1 lists) k (fewer lists k some) in
        let at = at_list (drop 1 lists) k x.0 x.1 in
        subst (IsFirst login call (Some (code_at (suc k) r)))
        (sym (ap (λ m. drop m (parts_of_lists (drop 1 lists))) e ∙ drop_sum (6 * k) r (parts_of_lists (drop 1 lists)) ∙ ap (drop r) at.1))
        (part_there x.0 at.0 r h (sym (next_list lists k) ∙ x.1))

    pub all_between : (r : ℕ) → n ≡ 6 * k + r → r < 6 → (r ≡ 0 → ⊥) → (r ≡ 2 → ⊥) → (r ≡ 3 → ⊥) → (r ≡ 4 → ⊥) → suc k < length lists
        → IsFirst login call (Some parts.All) (drop n (parts_of_lists (drop 1 lists)))
    all_between r e h zeroth second third fourth some = subst (λ (part : CodePart). IsFirst login call (Some part) (drop n (parts_of_lists (drop 1 lists)))) (all_at r h zeroth second third fourth) (list_there r e h some)
      where
        all_at : (r : ℕ) → r < 6 → (r ≡ 0 → ⊥) → (r ≡ 2 → ⊥) → (r ≡ 3 → ⊥) → (r ≡ 4 → ⊥) → code_at (suc k) r ≡ parts.All
        all_at zero h a b c d = absurd (a refl)
        all_at (suc zero) h a b c d = refl
        all_at (suc (suc zero)) h a b c d = absurd (b refl)
        all_at (suc (suc (suc zero))) h a b c d = absurd (c refl)
        all_at (suc (suc (suc (suc zero)))) h a b c d = absurd (d refl)
        all_at (suc (suc (suc (suc (suc r))))) h a b c d = refl

    pub after_lists : 6 * k ≤ n → length lists ≤ suc k → IsFirst login call None (drop n (parts_of_lists (drop 1 lists)))
    after_lists h none =
        let less = no_fewer lists k none in
        none_of login call (drop n (parts_of_lists (drop 1 lists))) (past_lists (drop 1 lists) n (omega (arith, h, less)))

  -- after the first execution
  pub later_there : (n : ℕ) (part : Option CodePart) → 0 < length lists → 9 ≤ n → IsFirst login call part (drop (n - 9) (parts_of_lists (drop 1 lists))) → IsFirst login call part (drop n (parts_of_batch lists))
  later_there n part some h w = by_lists lists some w
    where
      by_lists : (ps : List Params) → 0 < length ps → IsFirst login call part (drop (n - 9) (parts_of_lists (drop 1 ps))) → IsFirst login call part (drop n (parts_of_batch ps))
      by_lists [] none w = absurd (omega (arith, none))
      by_lists (first ∷ rest) some w =
          let nine : suc (suc (suc (suc (suc (suc (suc (suc (suc (n - 9))))))))) ≡ n = omega (arith, h) in
          subst (λ m. IsFirst login call part (drop m (parts_of_batch (first ∷ rest)))) nine
          (subst (λ (ps : List Params). IsFirst login call part (drop (n - 9) (parts_of_lists ps))) (rest_left rest) w)
