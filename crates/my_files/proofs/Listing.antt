-- Which names are listed, and which were handed to a file system.
use Rattle.std.proofs.Common.{refl, ◌≡◌, ℕ, List, [], ◌∷◌, ◌++◌, Bool, true, false, ap, subst, sym, inl, inr}
use Rattle.std.proofs.lemmas.List.Elements.{All-nil, All-cons, All-append}
use Rattle.std.specs.Prelude.{◌||◌, Some, None, All, String, map, string_bytes, bytes_eq}
use Rattle.std.specs.List.{list_any}
use Rattle.my_link.specs.declared.aid.Opening.{Opening}
use Rattle.my_link.specs.declared.aid.Opening.TheVariants.{Opened, NotListed, Absent, Failed}
use Rattle.my_files.specs.Lending.{AllListed, Asked, Asks, OpensListed, OpensNoOther, is_listed}

-- the list of the texts' bytes has what one of the texts is
pub texts_listed : {A : Type 0} (name : List ℕ) (texts : List (String A))
    → list_any (λ t. bytes_eq (string_bytes t) name) texts ≡ is_listed name (map string_bytes texts)
texts_listed name [] = refl
texts_listed name (t ∷ ts) = ap (λ b. bytes_eq (string_bytes t) name || b) (texts_listed name ts)

one_more : (list names : List (List ℕ)) (name : List ℕ) → is_listed name list ≡ true
    → All (λ n. is_listed n list ≡ true) names → All (λ n. is_listed n list ≡ true) (names ++ name ∷ [])
one_more list names name here all =
    let P : List ℕ → Type 0 = λ n. is_listed n list ≡ true in
    All-append P names (name ∷ []) all (All-cons P name [] here (All-nil P))

asked_listed : (list : List (List ℕ)) (name : List ℕ) (before now : Asked) → is_listed name list ≡ true
    → Asks before (name ∷ []) now → AllListed list before → AllListed list now
asked_listed list name None None here asks all = tt
asked_listed list name (Some before) (Some now) here asks all =
    subst (λ names. All (λ n. is_listed n list ≡ true) names) (sym asks) (one_more list before name here all)
asked_listed list name None (Some now) here asks all = absurd asks
asked_listed list name (Some before) None here asks all = absurd asks

same_listed : (list : List (List ℕ)) (before now : Asked) → now ≡ before → AllListed list before → AllListed list now
same_listed list before now same all = subst (AllListed list) (sym same) all

by_answer : (list : List (List ℕ)) (name : List ℕ) (before now : Asked) (step : Opening) (b : Bool)
    → is_listed name list ≡ b → OpensListed b name before step now → AllListed list before → AllListed list now
by_answer list name before now Opened true here opens all = asked_listed list name before now here opens all
by_answer list name before now Failed true here (inl same) all = same_listed list before now same all
by_answer list name before now Failed true here (inr asks) all = asked_listed list name before now here asks all
by_answer list name before now NotListed true here opens all = absurd opens
by_answer list name before now Absent true here opens all = absurd opens
by_answer list name before now Opened false here opens all = absurd opens
by_answer list name before now Failed false here opens all = same_listed list before now opens all
by_answer list name before now NotListed false here opens all = same_listed list before now opens all
by_answer list name before now Absent false here opens all = absurd opens

pub no_other : OpensNoOther
no_other list name before now step opens all = by_answer list name before now step (is_listed name list) refl opens all
