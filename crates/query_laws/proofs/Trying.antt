-- The tried values.
use Rattle.std.proofs.Common.{◌≡◌, ℕ, List, [], ◌∷◌, ◌++◌, true, false, refl, sym, ap, ◌∙◌, subst}
use Rattle.my_value.specs.RowParts.{RowParts}
use Rattle.my_value.specs.declared.value.Value.TheVariants.{Bytes}
use Rattle.my_grammar.specs.declared.spot.Terms.{Terms}
use Rattle.my_command.specs.declared.client.ClientPacket.TheVariants as packets
use Rattle.my_command.specs.Client.Packet.{client_bytes as packet_bytes}
use Rattle.my_grammar.specs.Sets.{ByText, NoSets}
use Rattle.my_grammar.specs.Talk.{Queried}
use Rattle.my_reading.specs.Commands.{queried}
use Rattle.history_laws.specs.Fronts.{Set}
use Rattle.query_laws.specs.Answers.{Became}
use Rattle.query_laws.specs.Begins.{IsQuery}
use Rattle.query_laws.specs.Found.{BeginsWith, IsWhole, Oldest}
use Rattle.query_laws.specs.Tried.{AreTried, cut_off, row, whole}

-- the last of a list
not_empty : {A : Type 0} (xs : List A) (x : A) → [] ≡ xs ++ x ∷ [] → ⊥
not_empty [] x e = cc
not_empty (y ∷ ys) x e = cc

only : {A : Type 0} (later : List A) (x s : A) → x ∷ [] ≡ later ++ s ∷ [] → s ≡ x
only [] x s e = cc
only (y ∷ ys) x s e = let rest : [] ≡ ys ++ s ∷ [] = cc in absurd (not_empty ys s rest)

second : {A : Type 0} (later : List A) (x y s : A) → x ∷ y ∷ [] ≡ later ++ s ∷ [] → s ≡ y
second [] x y s e = let rest : y ∷ [] ≡ [] = cc in cc
second (z ∷ zs) x y s e = let rest : y ∷ [] ≡ zs ++ s ∷ [] = cc in only zs y s rest

-- of the one set
one_set : (rows : List RowParts) (s : Set) → Oldest (IsWhole rows) (s ∷ []) → (s.rows ≡ rows) × (s.done ≡ true)
one_set rows s w = subst (IsWhole rows) (only w.0 s w.1 w.2) w.3

two_sets : (rows : List RowParts) (t s : Set) → Oldest (IsWhole rows) (t ∷ s ∷ []) → s.rows ≡ rows
two_sets rows t s w = (subst (IsWhole rows) (second w.0 t s w.1 w.2) w.3).0

-- the first of a list
head : {x y : RowParts} {xs ys : List RowParts} → x ∷ xs ≡ y ∷ ys → x ≡ y
head e = cc

-- two rows
two_one : row 2 ≡ row 1 → ⊥
two_one e = let cells : Bytes (2 ∷ []) ∷ [] ≡ Bytes (1 ∷ []) ∷ [] = ap (λ (r : RowParts). r.cells) e in cc

texts : (terms : Terms) → IsQuery (1 ∷ []) (queried terms (2 ∷ [])) → ⊥
texts terms w = let bytes : packet_bytes (packets.Query (2 ∷ [])) ≡ packet_bytes (packets.Query (1 ∷ [])) = cc in cc

values_so : Became (λ r n. r ≡ row n) (row 2 ∷ row 1 ∷ []) (2 ∷ 1 ∷ []) → ⊥
values_so w = let last : w.1 ≡ 1 = second w.0 2 1 w.1 w.4 in two_one (w.3 ∙ ap row last)

last_so : Oldest (BeginsWith (row 2)) (whole (row 2 ∷ row 1 ∷ []) ∷ []) → ⊥
last_so w =
    let b : BeginsWith (row 2) (whole (row 2 ∷ row 1 ∷ [])) = subst (BeginsWith (row 2)) (only w.0 _ w.1 w.2) w.3 in
    two_one (second b.0 (row 2) (row 1) (row 2) b.1)

pub are_tried : AreTried
are_tried = (
  record {
    text = λ terms. (terms, refl);
    rows = (whole (row 3 ∷ []) ∷ [], whole (row 2 ∷ row 1 ∷ []), refl, (refl, refl));
    first = (whole (row 3 ∷ []) ∷ [], whole (row 2 ∷ row 1 ∷ []), refl, (row 2 ∷ [], refl));
    values = (1 ∷ [], 2, ([], 1, refl, refl, refl), refl, refl);
  },
  record {
    text = texts;
    command = λ terms c w. let no = w.1 in cc;
    other = λ w. let e : row 2 ∷ [] ≡ row 1 ∷ [] = (one_set _ _ w).0 in two_one (head e);
    order = λ w. let e : row 1 ∷ row 2 ∷ [] ≡ row 2 ∷ row 1 ∷ [] = (one_set _ _ w).0 in two_one (sym (head e));
    fewer = λ w. let e = (one_set _ _ w).0 in cc;
    more = λ w. let e = (one_set _ _ w).0 in cc;
    endless = λ w. let e = (one_set _ _ w).1 in cc;
    later = λ w. let e : row 2 ∷ [] ≡ row 1 ∷ [] = two_sets _ _ _ w in two_one (head e);
    none = λ w. not_empty w.0 w.1 w.2;
    last = last_so;
    values = values_so;
    unanswered = λ terms c e. cc;
  },
)
