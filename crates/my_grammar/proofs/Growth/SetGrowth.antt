-- One payload more in a response of sets.
use Rattle.std.proofs.Common.{◌≡◌, ℕ, suc, ◌-◌, ◌<◌, List, [], ◌∷◌, Bool, true, false, cond, leb, Option, Some, None, inl, inr, refl, sym, ap, ◌∙◌, subst, arith, add-zero}
use Rattle.std.proofs.lemmas.Bool.Decides.{nat_tests}
use Rattle.my_flags.specs.declared.flags.CapabilityFlags.{CapabilityFlags}
use Rattle.my_flags.specs.declared.flags.StatusFlags.{StatusFlags}
use Rattle.my_grammar.specs.declared.spot.Spot.{Spot}
use Rattle.my_grammar.specs.declared.spot.Spot.TheVariants as spots
use Rattle.my_grammar.specs.declared.spot.Kind.{Kind}
use Rattle.my_grammar.specs.declared.spot.Kind.TheVariants.{Greets, Asks, Good, Failed, Count, Column, ColumnsDone, Row, End, Prepared, Parameter, Field, Bad}
use Rattle.my_grammar.specs.declared.login.Login.{Login}
use Rattle.my_grammar.specs.Contexts.{more, spot_after, columns_after, kept_after, is_bad}
use Rattle.my_grammar.specs.Growth.{replies, is_calm, described_after}
use Rattle.my_grammar.specs.Kinds.{head_kind, column_kind, columns_end_kind, row_kind, kind_by}
use Rattle.my_grammar.specs.Sets.{SetHead, Sets, NoSets, Lone, Failed as FailedSet, Heading, Headed, Begun, Ended, Broken, Packet, each, at_most_one, head_packets, packets_in, spot_in, columns_in, asking_in, format_in, head_columns, described_in, with_column_of, with_error, grow_sets}
use Rattle.my_grammar.specs.FitSets.{is_head, IsClose, IsHeading, FitSets}
use Rattle.my_grammar.proofs.Growth.Known.{is_head_kind, is_column_kind, is_close_kind, is_row_kind, known_head, known_column, known_close, known_row, is_then, head_kind_is, after_head_is, more_cases, idle_bad}

-- The sets y are the sets x with this payload.
pub record Grown (d : Bool) (x y : Sets) (s : Spot) (n : ℕ) (k : Kind) (p : List ℕ) : Type 0 where
  pub spot : spot_in y ≡ s
  pub columns : columns_in y ≡ n
  pub asking : asking_in y ≡ asking_in x
  pub described : described_in y ≡ described_after (described_in x) k p
  pub packets_are : packets_in y ≡ record { kind = k; payload = p } ∷ packets_in x
  pub fits : FitSets d y
  pub other : is_calm k ≡ true

pub record GrowsSets (d : Bool) (x : Sets) (k : Kind) (p : List ℕ) : Type 0 where
  pub grown : Grown d x (grow_sets d k x p) (spot_after d (spot_in x) k) (columns_after (columns_in x) k) k p

-- an ERR in a head's place
pub error_is : (x : Sets) (p : List ℕ) → is_head (spot_in x) ≡ true → with_error x p ≡ FailedSet x p
error_is (NoSets asking) p h = refl
error_is (Lone older q s) p h = refl
error_is (FailedSet older q) p h = refl
error_is (Heading older head left) p h = refl
error_is (Headed older head) p h = refl
error_is (Begun older head rows) p h = cc
error_is (Ended older head rows last s) p h = refl
error_is (Broken older head rows last) p h = refl

one : (n : ℕ) → leb 1 n ≡ true → 0 < n
one n t = grind (arith, nat_tests)

at_head : (d : Bool) (x : Sets) (k : Kind) (p : List ℕ) → is_head (spot_in x) ≡ true → head_kind p ≡ k → is_head_kind k ≡ true → is_bad k ≡ false → FitSets d x → GrowsSets d x k p
at_head d x (Greets c) p h e i b f = cc
at_head d x (Asks ask) p h e i b f = cc
at_head d x (Good status) p h e i b f = record { grown = record { other = refl; spot = after_head_is (spot_in x) d (Good status) h; columns = refl; asking = refl; described = refl; packets_are = refl; fits = (h, e, f) } }
at_head d x Failed p h e i b f =
    let is = error_is x p h in
    record { grown = record { other = refl; spot = ap spot_in is ∙ after_head_is (spot_in x) d Failed h; columns = ap columns_in is; asking = ap asking_in is; described = ap described_in is; packets_are = ap packets_in is; fits = subst (λ y. FitSets d y) (sym is) (h, e, f) } }
at_head d x (Count n) p h e i b f =
    record { grown = record { other = refl; spot = after_head_is (spot_in x) d (Count n) h; columns = refl; asking = refl; described = refl; packets_are = refl; fits = (record { place = h; count = e; columns = tt; all = add-zero n }, one n i, refl, f) } }
at_head d x Column p h e i b f = cc
at_head d x ColumnsDone p h e i b f = cc
at_head d x Row p h e i b f = cc
at_head d x (End status) p h e i b f = cc
at_head d x (Prepared params columns) p h e i b f = cc
at_head d x Parameter p h e i b f = cc
at_head d x Field p h e i b f = cc
at_head d x Bad p h e i b f = cc

-- a head with one column more
heading_more : (older : Sets) (head : SetHead) (left now : ℕ) (p : List ℕ) → IsHeading older head left → column_kind p ≡ Column → left ≡ suc now → IsHeading older (with_column_of head p) now
heading_more older head left now p w e is =
    let all = w.all in
    record { place = w.place; count = w.count; columns = (e, w.columns); all = omega arith }

-- no EOF follows it yet
column_in_front : (head : SetHead) (p : List ℕ) (others : List Packet) → head.close ≡ None → head_packets (with_column_of head p) others ≡ record { kind = Column; payload = p } ∷ head_packets head others
column_in_front head p others none =
    let P : Option (List ℕ) → Type 0 = λ c. at_most_one ColumnsDone c (record { kind = Column; payload = p } ∷ each Column head.columns (record { kind = Count head.number; payload = head.count } ∷ others)) ≡ record { kind = Column; payload = p } ∷ at_most_one ColumnsDone c (each Column head.columns (record { kind = Count head.number; payload = head.count } ∷ others)) in
    subst P (sym none) refl

column_if : (d : Bool) (older : Sets) (head : SetHead) (left : ℕ) (p : List ℕ) → column_kind p ≡ Column → FitSets d (Heading older head left) → (t : Bool) → leb left 1 ≡ t
    → Grown d (Heading older head left) (cond t (cond d (Begun older (with_column_of head p) []) (Headed older (with_column_of head p))) (Heading older (with_column_of head p) (left - 1))) (cond t (cond d spots.Rows spots.ColumnsEnd) (spots.Columns (left - 1))) head.number Column p
column_if true older head left p e f true t =
    let some = f.1 in
    let one : left ≡ 1 = grind (arith, nat_tests) in
    record { other = refl; spot = refl; columns = refl; asking = refl; described = refl; packets_are = column_in_front head p (packets_in older) f.2; fits = (record { heading = heading_more older head left 0 p f.0 e one; close = subst (λ c. IsClose true c) (sym f.2) tt; filled = tt }, f.3) }
column_if false older head left p e f true t =
    let some = f.1 in
    let one : left ≡ 1 = grind (arith, nat_tests) in
    record { other = refl; spot = refl; columns = refl; asking = refl; described = refl; packets_are = column_in_front head p (packets_in older) f.2; fits = (heading_more older head left 0 p f.0 e one, refl, f.2, f.3) }
column_if d older head left p e f false t =
    let more : left ≡ suc (left - 1) = grind (arith, nat_tests) in
    record { other = refl; spot = refl; columns = refl; asking = refl; described = refl; packets_are = column_in_front head p (packets_in older) f.2; fits = (heading_more older head left (left - 1) p f.0 e more, grind (arith, nat_tests), f.2, f.3) }

at_column : (d : Bool) (older : Sets) (head : SetHead) (left : ℕ) (k : Kind) (p : List ℕ) → column_kind p ≡ k → is_column_kind k ≡ true → is_bad k ≡ false → FitSets d (Heading older head left) → GrowsSets d (Heading older head left) k p
at_column d older head left (Greets c) p e i b f = cc
at_column d older head left (Asks ask) p e i b f = cc
at_column d older head left (Good status) p e i b f = cc
at_column d older head left Failed p e i b f = cc
at_column d older head left (Count n) p e i b f = cc
at_column d older head left Column p e i b f = record { grown = column_if d older head left p e f (leb left 1) refl }
at_column d older head left ColumnsDone p e i b f = cc
at_column d older head left Row p e i b f = cc
at_column d older head left (End status) p e i b f = cc
at_column d older head left (Prepared params columns) p e i b f = cc
at_column d older head left Parameter p e i b f = cc
at_column d older head left Field p e i b f = cc
at_column d older head left Bad p e i b f = cc

closed : (d : Bool) (older : Sets) (head : SetHead) (p : List ℕ) → columns_end_kind p ≡ ColumnsDone → FitSets d (Headed older head) → GrowsSets d (Headed older head) ColumnsDone p
closed d older head p e f =
    let is : IsClose d (Some p) = subst (λ (d : Bool). IsClose d (Some p)) (sym f.1) e in
    let w = f.0 in
    let P : Option (List ℕ) → Type 0 = λ c. record { kind = ColumnsDone; payload = p } ∷ each Column head.columns (record { kind = Count head.number; payload = head.count } ∷ packets_in older) ≡ record { kind = ColumnsDone; payload = p } ∷ at_most_one ColumnsDone c (each Column head.columns (record { kind = Count head.number; payload = head.count } ∷ packets_in older)) in
    record { grown = record { other = refl; spot = refl; columns = refl; asking = refl; described = refl; packets_are = subst P (sym f.2) refl; fits = (record { heading = record { place = w.place; count = w.count; columns = w.columns; all = w.all }; close = is; filled = tt }, f.3) } }

at_close : (d : Bool) (older : Sets) (head : SetHead) (k : Kind) (p : List ℕ) → columns_end_kind p ≡ k → is_close_kind k ≡ true → is_bad k ≡ false → FitSets d (Headed older head) → GrowsSets d (Headed older head) k p
at_close d older head (Greets c) p e i b f = cc
at_close d older head (Asks ask) p e i b f = cc
at_close d older head (Good status) p e i b f = cc
at_close d older head Failed p e i b f = cc
at_close d older head (Count n) p e i b f = cc
at_close d older head Column p e i b f = cc
at_close d older head ColumnsDone p e i b f = closed d older head p e f
at_close d older head Row p e i b f = cc
at_close d older head (End status) p e i b f = cc
at_close d older head (Prepared params columns) p e i b f = cc
at_close d older head Parameter p e i b f = cc
at_close d older head Field p e i b f = cc
at_close d older head Bad p e i b f = cc

at_row : (d : Bool) (older : Sets) (head : SetHead) (rows : List (List ℕ)) (k : Kind) (p : List ℕ) → row_kind (format_in older) d head.number (head_columns head) p ≡ k → is_row_kind k ≡ true → is_bad k ≡ false → FitSets d (Begun older head rows) → GrowsSets d (Begun older head rows) k p
at_row d older head rows (Greets c) p e i b f = cc
at_row d older head rows (Asks ask) p e i b f = cc
at_row d older head rows (Good status) p e i b f = cc
at_row d older head rows Failed p e i b f = record { grown = record { other = refl; spot = refl; columns = refl; asking = refl; described = refl; packets_are = refl; fits = (f.0, e, f.1) } }
at_row d older head rows (Count n) p e i b f = cc
at_row d older head rows Column p e i b f = cc
at_row d older head rows ColumnsDone p e i b f = cc
at_row d older head rows Row p e i b f =
    let w = f.0 in
    record { grown = record { other = refl; spot = refl; columns = refl; asking = refl; described = refl; packets_are = refl; fits = (record { heading = w.heading; close = w.close; filled = (e, w.filled) }, f.1) } }
at_row d older head rows (End status) p e i b f = record { grown = record { other = refl; spot = refl; columns = refl; asking = refl; described = refl; packets_are = refl; fits = (f.0, e, f.1) } }
at_row d older head rows (Prepared params columns) p e i b f = cc
at_row d older head rows Parameter p e i b f = cc
at_row d older head rows Field p e i b f = cc
at_row d older head rows Bad p e i b f = cc

-- after a set that another may follow
at_more : (d : Bool) (x : Sets) (status : StatusFlags) (k : Kind) (p : List ℕ) → spot_in x ≡ more status → kind_by (spot_in x) (format_in x) d (columns_in x) (described_in x) p ≡ k → is_bad k ≡ false → FitSets d x → GrowsSets d x k p
at_more d x status k p is e b f =
    elim (more_cases status) [
      | inl further ↦
          let h : is_head (spot_in x) ≡ true = subst (λ s. is_head s ≡ true) (sym (is ∙ further)) refl in
          let e' = sym (head_kind_is (spot_in x) (format_in x) d (columns_in x) (described_in x) p h) ∙ e in
          at_head d x k p h e' (is_then is_head_kind (head_kind p) k (known_head p) e') b f
      | inr idle ↦ let bad = idle_bad (spot_in x) (format_in x) d (columns_in x) (described_in x) p k (is ∙ idle) e in absurd (never k bad b)
    ]
  where
    never : (k : Kind) → k ≡ Bad → is_bad k ≡ false → ⊥
    never k bad b = let h : is_bad Bad ≡ false = subst (λ k. is_bad k ≡ false) bad b in cc

-- nothing fits where nothing is awaited
pub none : (k : Kind) → Bad ≡ k → is_bad k ≡ false → ⊥
none k bad b = let h : is_bad Bad ≡ false = subst (λ k. is_bad k ≡ false) (sym bad) b in cc

pub grows_sets : (d : Bool) (x : Sets) (k : Kind) (p : List ℕ) → kind_by (spot_in x) (format_in x) d (columns_in x) (described_in x) p ≡ k → is_bad k ≡ false → FitSets d x → GrowsSets d x k p
grows_sets d (NoSets asking) k p e b f = at_head d (NoSets asking) k p refl e (is_then is_head_kind (head_kind p) k (known_head p) e) b f
grows_sets d (Lone older q status) k p e b f = at_more d (Lone older q status) status k p refl e b f
grows_sets d (FailedSet older q) k p e b f = absurd (none k e b)
grows_sets d (Heading older head left) k p e b f = at_column d older head left k p e (is_then is_column_kind (column_kind p) k (known_column p) e) b f
grows_sets d (Headed older head) k p e b f = at_close d older head k p e (is_then is_close_kind (columns_end_kind p) k (known_close p) e) b f
grows_sets d (Begun older head rows) k p e b f = at_row d older head rows k p e (is_then is_row_kind (row_kind (format_in older) d head.number (head_columns head) p) k (known_row (format_in older) d head.number (head_columns head) p) e) b f
grows_sets d (Ended older head rows last status) k p e b f = at_more d (Ended older head rows last status) status k p refl e b f
grows_sets d (Broken older head rows last) k p e b f = absurd (none k e b)

-- A kind that no greeting has.
pub record IsCalm (k : Kind) (p : List ℕ) : Type 0 where
  pub kept : (n : CapabilityFlags) → kept_after n k ≡ n
  pub silent : (login : Login) (secret : Option (List ℕ)) → replies login secret k p ≡ []

pub calm : (k : Kind) (p : List ℕ) → is_calm k ≡ true → IsCalm k p
calm (Greets c) p i = cc
calm (Asks ask) p i = cc
calm (Good status) p i = record { kept = λ n. refl; silent = λ l s. refl }
calm Failed p i = record { kept = λ n. refl; silent = λ l s. refl }
calm (Count n) p i = record { kept = λ n. refl; silent = λ l s. refl }
calm Column p i = record { kept = λ n. refl; silent = λ l s. refl }
calm ColumnsDone p i = record { kept = λ n. refl; silent = λ l s. refl }
calm Row p i = record { kept = λ n. refl; silent = λ l s. refl }
calm (End status) p i = record { kept = λ n. refl; silent = λ l s. refl }
calm (Prepared params columns) p i = record { kept = λ n. refl; silent = λ l s. refl }
calm Parameter p i = record { kept = λ n. refl; silent = λ l s. refl }
calm Field p i = record { kept = λ n. refl; silent = λ l s. refl }
calm Bad p i = record { kept = λ n. refl; silent = λ l s. refl }
