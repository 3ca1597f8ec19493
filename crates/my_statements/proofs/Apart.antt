-- Statements of which each text and each number is there once.
use Rattle.std.proofs.Common.{◌≡◌, ℕ, zero, suc, ◌≤◌, Bool, true, false, cond, ◌||◌, Some, None, List, [], ◌∷◌, refl, ap, ◌∙◌, length, arith, subst, nat_eq}
use Rattle.std.specs.Prelude.{take, slice_get}
use Rattle.std.specs.Option.{is_some, option_map_or}
use Rattle.std.specs.List.{find, list_any}
use Rattle.std.specs.Cmp.{nat_eq_equiv}
use Rattle.std.specs.Cmp.Lexicographic.{pointwise, bytes_decides, nat_list_eq_equiv}
use Rattle.my_frame.specs.Lists.{without}
use Rattle.my_statements.specs.Cache.{Held, has_query, has_id, in_front}
use Rattle.my_statements.specs.Indexed.{AreApart}

abbrev pub same_text : List ℕ → List ℕ → Bool
same_text = pointwise nat_eq

pub text-symm : (p q : List ℕ) → same_text p q ≡ same_text q p
text-symm = nat_list_eq_equiv.symm

-- none is found where none passes, and one that is found is there
pub none-found : (test : Held → Bool) (hs : List Held) → list_any test hs ≡ false → find test hs ≡ None
none-found test [] e = refl
none-found test (h ∷ hs) e =
    elim (test h) as (λ b. (b || list_any test hs) ≡ false → cond b (Some h) (find test hs) ≡ None) [
      | true ↦ λ k. absurd (cc)
      | false ↦ λ k. none-found test hs k
    ] e

pub any-found : (test : Held → Bool) (hs : List Held) → find test hs ≡ None → list_any test hs ≡ false
any-found test [] e = refl
any-found test (h ∷ hs) e =
    elim (test h) as (λ b. cond b (Some h) (find test hs) ≡ None → (b || list_any test hs) ≡ false) [
      | true ↦ λ k. absurd (cc)
      | false ↦ λ k. any-found test hs k
    ] e

-- what none of a list passes, one that is found there does not
pub found-fails : (test other : Held → Bool) (hs : List Held) (h : Held) → list_any other hs ≡ false → find test hs ≡ Some h → other h ≡ false
found-fails test other [] h n e = absurd (cc)
found-fails test other (g ∷ hs) h n e =
    elim (other g) as (λ o. other g ≡ o → (o || list_any other hs) ≡ false → other h ≡ false) [
      | true ↦ λ i k. absurd (cc)
      | false ↦ λ i k. elim (test g) as (λ b. cond b (Some g) (find test hs) ≡ Some h → other h ≡ false) [
        | true ↦ λ f. let s : g ≡ h = cc in subst (λ x. other x ≡ false) s i
        | false ↦ λ f. found-fails test other hs h k f
      ] e
    ] refl n

-- fewer are left without one
pub any-without : (test other : Held → Bool) (hs : List Held) → list_any other hs ≡ false → list_any other (without test hs) ≡ false
any-without test other [] n = n
any-without test other (h ∷ hs) n =
    elim (other h) as (λ o. other h ≡ o → (o || list_any other hs) ≡ false → list_any other (cond (test h) hs (h ∷ without test hs)) ≡ false) [
      | true ↦ λ i k. absurd (cc)
      | false ↦ λ i k. elim (test h) as (λ b. list_any other (cond b hs (h ∷ without test hs)) ≡ false) [
        | true ↦ k
        | false ↦ rw i (any-without test other hs k)
      ]
    ] refl n

pub apart-without : (test : Held → Bool) (hs : List Held) → AreApart hs → AreApart (without test hs)
apart-without test [] a = a
apart-without test (h ∷ hs) a =
    elim (test h) as (λ b. AreApart (cond b hs (h ∷ without test hs))) [
      | true ↦ a.2
      | false ↦ (any-without test (has_query h.query) hs a.0, any-without test (has_id h.stmt.id) hs a.1, apart-without test hs a.2)
    ]

-- the others are found as before once the one of a number is out
pub find-without : (n : ℕ) (hs : List Held) (h : Held) → AreApart hs → find (has_id n) hs ≡ Some h → (q : List ℕ) → find (has_query q) (without (has_id n) hs) ≡ cond (same_text h.query q) None (find (has_query q) hs)
find-without n [] h a e q = absurd (cc)
find-without n (g ∷ hs) h a e q =
    elim (has_id n g) as (λ b. cond b (Some g) (find (has_id n) hs) ≡ Some h
    → find (has_query q) (cond b hs (g ∷ without (has_id n) hs)) ≡ cond (same_text h.query q) None (cond (has_query q g) (Some g) (find (has_query q) hs))) [
      | true ↦ λ f.
          let s : g ≡ h = cc in
          subst (λ x. find (has_query q) hs ≡ cond (same_text x.query q) None (cond (has_query q g) (Some g) (find (has_query q) hs))) s
          (rw (text-symm q g.query)
          (elim (same_text g.query q) as (λ b. same_text g.query q ≡ b → find (has_query q) hs ≡ cond b None (cond b (Some g) (find (has_query q) hs))) [
            | true ↦ λ k. none-found (has_query q) hs (subst (λ t. list_any (has_query t) hs ≡ false) ((bytes_decides g.query q).0 k) a.0)
            | false ↦ λ k. refl
          ] refl))
      | false ↦ λ f.
          let later = find-without n hs h a.2 f q in
          elim (has_query q g) as (λ b. has_query q g ≡ b
          → cond b (Some g) (find (has_query q) (without (has_id n) hs)) ≡ cond (same_text h.query q) None (cond b (Some g) (find (has_query q) hs))) [
            | true ↦ λ k.
                let other : same_text g.query h.query ≡ false = found-fails (has_id n) (has_query g.query) hs h a.0 f in
                let at : q ≡ g.query = (bytes_decides q g.query).0 k in
                rw (text-symm h.query q ∙ ap (λ t. same_text t h.query) at ∙ other) refl
            | false ↦ λ k. later
          ] refl
    ] e

-- a statement that is found by its text is found by its number, and the lists without it are one
pub query-as-id : (q : List ℕ) (hs : List Held) (h : Held) → AreApart hs → find (has_query q) hs ≡ Some h
    → (find (has_id h.stmt.id) hs ≡ Some h) × (without (has_query q) hs ≡ without (has_id h.stmt.id) hs)
query-as-id q [] h a e = absurd (cc)
query-as-id q (g ∷ hs) h a e =
    elim (has_query q g) as (λ b. cond b (Some g) (find (has_query q) hs) ≡ Some h
    → (cond (has_id h.stmt.id g) (Some g) (find (has_id h.stmt.id) hs) ≡ Some h)
    × (cond b hs (g ∷ without (has_query q) hs) ≡ cond (has_id h.stmt.id g) hs (g ∷ without (has_id h.stmt.id) hs))) [
      | true ↦ λ f.
          let s : g ≡ h = cc in
          subst (λ x. (cond (has_id x.stmt.id g) (Some g) (find (has_id x.stmt.id) hs) ≡ Some x) × (hs ≡ cond (has_id x.stmt.id g) hs (g ∷ without (has_id x.stmt.id) hs))) s
          (rw (nat_eq_equiv.refl g.stmt.id) (refl, refl))
      | false ↦ λ f.
          let later = query-as-id q hs h a.2 f in
          let other : has_id h.stmt.id g ≡ false = nat_eq_equiv.symm h.stmt.id g.stmt.id ∙ found-fails (has_query q) (has_id g.stmt.id) hs h a.1 f in
          rw other (later.0, ap (λ gs. g ∷ gs) later.1)
    ] e

-- the last one of a full list goes
pub last-out : (n : ℕ) (hs : List Held) (h : Held) → AreApart hs → length hs ≤ suc n → slice_get hs n ≡ Some h
    → (find (has_id h.stmt.id) hs ≡ Some h) × (take n hs ≡ without (has_id h.stmt.id) hs)
last-out n [] h a few e = absurd (cc)
last-out zero (g ∷ []) h a few e =
    let s : g ≡ h = cc in
    subst (λ x. (cond (has_id x.stmt.id g) (Some g) None ≡ Some x) × ([] ≡ cond (has_id x.stmt.id g) [] (g ∷ []))) s (rw (nat_eq_equiv.refl g.stmt.id) (refl, refl))
last-out zero (g ∷ f ∷ hs) h a few e = absurd (omega (arith, few))
last-out (suc n) (g ∷ hs) h a few e =
    let later = last-out n hs h a.2 (omega (arith, few)) e in
    let other : has_id h.stmt.id g ≡ false = nat_eq_equiv.symm h.stmt.id g.stmt.id ∙ found-fails (has_id h.stmt.id) (has_id g.stmt.id) hs h a.1 later.0 in
    rw other (later.0, ap (λ gs. g ∷ gs) later.1)

-- where all fit, none goes
pub none-out : (n : ℕ) (hs : List Held) → slice_get hs n ≡ None → take n hs ≡ hs
none-out zero [] e = refl
none-out zero (h ∷ hs) e = absurd (cc)
none-out (suc n) [] e = refl
none-out (suc n) (h ∷ hs) e = ap (λ gs. h ∷ gs) (none-out n hs e)

pub length-without : (test : Held → Bool) (hs : List Held) → length (without test hs) ≤ length hs
length-without test [] = omega arith
length-without test (h ∷ hs) =
    elim (test h) as (λ b. length (cond b hs (h ∷ without test hs)) ≤ suc (length hs)) [
      | true ↦ omega arith
      | false ↦ omega (arith, length-without test hs)
    ]

-- what is taken out was there once
pub gone : (n : ℕ) (hs : List Held) (h : Held) → AreApart hs → find (has_id n) hs ≡ Some h
    → (list_any (has_query h.query) (without (has_id n) hs) ≡ false) × (list_any (has_id h.stmt.id) (without (has_id n) hs) ≡ false)
gone n [] h a e = absurd (cc)
gone n (g ∷ hs) h a e =
    elim (has_id n g) as (λ b. cond b (Some g) (find (has_id n) hs) ≡ Some h
    → (list_any (has_query h.query) (cond b hs (g ∷ without (has_id n) hs)) ≡ false) × (list_any (has_id h.stmt.id) (cond b hs (g ∷ without (has_id n) hs)) ≡ false)) [
      | true ↦ λ f. let s : g ≡ h = cc in subst (λ x. (list_any (has_query x.query) hs ≡ false) × (list_any (has_id x.stmt.id) hs ≡ false)) s (a.0, a.1)
      | false ↦ λ f.
          let later = gone n hs h a.2 f in
          let text = text-symm h.query g.query ∙ found-fails (has_id n) (has_query g.query) hs h a.0 f in
          let number = nat_eq_equiv.symm h.stmt.id g.stmt.id ∙ found-fails (has_id n) (has_id g.stmt.id) hs h a.1 f in
          (rw text later.0, rw number later.1)
    ] e

-- the one that is found by its text goes to the front
pub apart-in_front : (q : List ℕ) (hs : List Held) → AreApart hs → AreApart (in_front (has_query q) hs)
apart-in_front q hs a =
    elim (find (has_query q) hs) as (λ o. find (has_query q) hs ≡ o → AreApart (option_map_or (λ h. h ∷ without (has_query q) hs) o hs)) [
      | None ↦ λ e. a
      | Some h ↦ λ e.
          let by_id = query-as-id q hs h a e in
          let out = gone h.stmt.id hs h a by_id.0 in
          rw by_id.1 (out.0, out.1, apart-without (has_id h.stmt.id) hs a)
    ] refl

pub any-is_some : (test : Held → Bool) (hs : List Held) → is_some (find test hs) ≡ list_any test hs
any-is_some test [] = refl
any-is_some test (h ∷ hs) =
    elim (test h) as (λ b. is_some (cond b (Some h) (find test hs)) ≡ (b || list_any test hs)) [
      | true ↦ refl
      | false ↦ any-is_some test hs
    ]
