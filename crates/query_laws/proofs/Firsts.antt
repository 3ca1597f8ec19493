-- The first set of a response, from its head to its end, and once more was read.
use Rattle.std.proofs.Common.{◌≡◌, ℕ, ◌-◌, List, [], ◌∷◌, ◌++◌, Bool, true, false, cond, leb, refl, sym, ap, ◌∙◌, subst}
use Rattle.my_flags.specs.declared.flags.StatusFlags.{StatusFlags}
use Rattle.my_value.specs.RowParts.{RowParts}
use Rattle.my_grammar.specs.declared.spot.Kind.{Kind}
use Rattle.my_grammar.specs.declared.spot.Kind.TheVariants as kinds
use Rattle.my_grammar.specs.FitSets.{FitSets, is_head}
use Rattle.my_grammar.specs.Sets.{SetHead, Sets, NoSets, Lone, Failed, Heading, Headed, Begun, Ended, Broken, described_in, format_in, grow_sets, head_columns, spot_in, with_close, with_column, with_column_of, with_end, with_error, with_row}
use Rattle.my_reading.specs.Place.{is_rows}
use Rattle.my_reading.specs.Rows.{row_of}
use Rattle.history_laws.specs.Fronts.{Set, rows_in, sets_in}
use Rattle.history_laws.specs.Settled.{is_none}
use Rattle.query_laws.specs.Found.{BeginsWith, IsWhole, Oldest}
use Rattle.history_laws.proofs.Blaming.{is_failed}

-- the head of the first set is awaited, or a part of it, or its first row
abbrev pub IsHeading : Sets → Type 0
IsHeading (NoSets asking) = Unit {0}
IsHeading (Heading older head left) = is_none older ≡ true
IsHeading (Headed older head) = is_none older ≡ true
IsHeading (Begun older head rows) = (is_none older ≡ true) × (rows ≡ [])
IsHeading x = ⊥

-- a lone OK is the first set
abbrev pub IsLone : Sets → Type 0
IsLone (Lone older p status) = is_none older ≡ true
IsLone x = ⊥

-- these rows of the first set, the newest first, and no more were read
abbrev pub IsFirst : List RowParts → Sets → Type 0
IsFirst rows (Begun older head ps) = (is_none older ≡ true) × (rows_in (format_in older) (head_columns head) ps ≡ rows)
IsFirst rows x = ⊥

-- of the first set this holds
abbrev pub HasFirst : (Set → Type 0) → Sets → Type 0
HasFirst holds x = Oldest holds (sets_in x)

none_sets : (x : Sets) → is_none x ≡ true → sets_in x ≡ []
none_sets (NoSets asking) e = refl
none_sets (Lone older p status) e = cc
none_sets (Failed older p) e = cc
none_sets (Heading older head left) e = cc
none_sets (Headed older head) e = cc
none_sets (Begun older head rows) e = cc
none_sets (Ended older head rows last status) e = cc
none_sets (Broken older head rows last) e = cc

-- where a head comes next, there is no set yet
none_at_head : (x : Sets) → IsHeading x → is_head (spot_in x) ≡ true → is_none x ≡ true
none_at_head (NoSets asking) w e = refl
none_at_head (Lone older p status) w e = absurd w
none_at_head (Failed older p) w e = absurd w
none_at_head (Heading older head left) w e = cc
none_at_head (Headed older head) w e = cc
none_at_head (Begun older head rows) w e = cc
none_at_head (Ended older head rows last status) w e = absurd w
none_at_head (Broken older head rows last) w e = absurd w

pub good_lone : (d : Bool) (x : Sets) (q : List ℕ) (s : StatusFlags) → IsHeading x → FitSets d (Lone x q s) → IsLone (Lone x q s)
good_lone d x q s w f = none_at_head x w f.0

column_if : (d last : Bool) (older : Sets) (head : SetHead) (left : ℕ) → is_none older ≡ true → IsHeading (cond last (cond d (Begun older head []) (Headed older head)) (Heading older head left))
column_if true true older head left w = (w, refl)
column_if false true older head left w = w
column_if d false older head left w = w

column_heads : (d : Bool) (x : Sets) (q : List ℕ) → IsHeading x → IsHeading (with_column d x q)
column_heads d (NoSets asking) q w = w
column_heads d (Lone older p s) q w = w
column_heads d (Failed older p) q w = w
column_heads d (Heading older head left) q w = column_if d (leb left 1) older (with_column_of head q) (left - 1) w
column_heads d (Headed older head) q w = w
column_heads d (Begun older head rows) q w = w
column_heads d (Ended older head rows last s) q w = w
column_heads d (Broken older head rows last) q w = w

close_heads : (x : Sets) (q : List ℕ) → IsHeading x → IsHeading (with_close x q)
close_heads (NoSets asking) q w = w
close_heads (Lone older p s) q w = w
close_heads (Failed older p) q w = w
close_heads (Heading older head left) q w = w
close_heads (Headed older head) q w = (w, refl)
close_heads (Begun older head rows) q w = w
close_heads (Ended older head rows last s) q w = w
close_heads (Broken older head rows last) q w = w

row_heads : (x : Sets) (q : List ℕ) → is_rows (spot_in x) ≡ false → IsHeading x → IsHeading (with_row x q)
row_heads (NoSets asking) q e w = w
row_heads (Lone older p s) q e w = w
row_heads (Failed older p) q e w = w
row_heads (Heading older head left) q e w = w
row_heads (Headed older head) q e w = w
row_heads (Begun older head rows) q e w = absurd (cc)
row_heads (Ended older head rows last s) q e w = w
row_heads (Broken older head rows last) q e w = w

end_heads : (x : Sets) (q : List ℕ) (s : StatusFlags) → is_rows (spot_in x) ≡ false → IsHeading x → IsHeading (with_end x q s)
end_heads (NoSets asking) q s e w = w
end_heads (Lone older p t) q s e w = w
end_heads (Failed older p) q s e w = w
end_heads (Heading older head left) q s e w = w
end_heads (Headed older head) q s e w = w
end_heads (Begun older head rows) q s e w = absurd (cc)
end_heads (Ended older head rows last t) q s e w = w
end_heads (Broken older head rows last) q s e w = w

abbrev pub is_good : Kind → Bool
is_good (kinds.Good status) = true
is_good k = false

-- more of a head is read
pub head_grows : (d : Bool) (k : Kind) (x : Sets) (q : List ℕ) → is_failed k ≡ false → is_good k ≡ false → is_rows (spot_in x) ≡ false → FitSets d (grow_sets d k x q) → IsHeading x → IsHeading (grow_sets d k x q)
head_grows d (kinds.Greets n) x q calm other e f w = w
head_grows d (kinds.Asks n) x q calm other e f w = w
head_grows d (kinds.Good s) x q calm other e f w = absurd (cc)
head_grows d kinds.Failed x q calm other e f w = absurd (cc)
head_grows d (kinds.Count n) x q calm other e f w = none_at_head x w f.0.place
head_grows d kinds.Column x q calm other e f w = column_heads d x q w
head_grows d kinds.ColumnsDone x q calm other e f w = close_heads x q w
head_grows d kinds.Row x q calm other e f w = row_heads x q e w
head_grows d (kinds.End s) x q calm other e f w = end_heads x q s e w
head_grows d (kinds.Prepared m n) x q calm other e f w = w
head_grows d kinds.Parameter x q calm other e f w = w
head_grows d kinds.Field x q calm other e f w = w
head_grows d kinds.Bad x q calm other e f w = w

-- a whole head, and no row yet
pub head_begun : (x : Sets) → IsHeading x → is_rows (spot_in x) ≡ true → IsFirst [] x
head_begun (NoSets asking) w e = absurd (cc)
head_begun (Lone older p status) w e = absurd w
head_begun (Failed older p) w e = absurd w
head_begun (Heading older head left) w e = absurd (cc)
head_begun (Headed older head) w e = absurd (cc)
head_begun (Begun older head rows) w e = (w.0, ap (rows_in (format_in older) (head_columns head)) w.1)
head_begun (Ended older head rows last status) w e = absurd w
head_begun (Broken older head rows last) w e = absurd w

-- where rows are read
pub first_rows : (rows : List RowParts) (x : Sets) → IsFirst rows x → is_rows (spot_in x) ≡ true
first_rows rows (NoSets asking) w = absurd w
first_rows rows (Lone older p status) w = absurd w
first_rows rows (Failed older p) w = absurd w
first_rows rows (Heading older head left) w = absurd w
first_rows rows (Headed older head) w = absurd w
first_rows rows (Begun older head ps) w = refl
first_rows rows (Ended older head ps last status) w = absurd w
first_rows rows (Broken older head ps last) w = absurd w

pub row_first : (rows : List RowParts) (x : Sets) (q : List ℕ) → IsFirst rows x → IsFirst (row_of (format_in x) (described_in x) q ∷ rows) (with_row x q)
row_first rows (NoSets asking) q w = absurd w
row_first rows (Lone older p status) q w = absurd w
row_first rows (Failed older p) q w = absurd w
row_first rows (Heading older head left) q w = absurd w
row_first rows (Headed older head) q w = absurd w
row_first rows (Begun older head ps) q w = (w.0, ap (λ rs. row_of (format_in older) (head_columns head) q ∷ rs) w.1)
row_first rows (Ended older head ps last status) q w = absurd w
row_first rows (Broken older head ps last) q w = absurd w

pub end_first : (rows : List RowParts) (x : Sets) (q : List ℕ) (s : StatusFlags) → IsFirst rows x → HasFirst (IsWhole rows) (with_end x q s)
end_first rows (NoSets asking) q s w = absurd w
end_first rows (Lone older p status) q s w = absurd w
end_first rows (Failed older p) q s w = absurd w
end_first rows (Heading older head left) q s w = absurd w
end_first rows (Headed older head) q s w = absurd w
end_first rows (Begun older head ps) q s w =
    let made : Set = record { rows = rows_in (format_in older) (head_columns head) ps; done = true } in
    ([], made, ap (λ (ss : List Set). made ∷ ss) (none_sets older w.0), (w.1, refl))
end_first rows (Ended older head ps last status) q s w = absurd w
end_first rows (Broken older head ps last) q s w = absurd w

pub lone_first : (x : Sets) → IsLone x → HasFirst (IsWhole []) x
lone_first (NoSets asking) w = absurd w
lone_first (Lone older p status) w =
    let made : Set = record { rows = []; done = true } in
    ([], made, ap (λ (ss : List Set). made ∷ ss) (none_sets older w), (refl, refl))
lone_first (Failed older p) w = absurd w
lone_first (Heading older head left) w = absurd w
lone_first (Headed older head) w = absurd w
lone_first (Begun older head rows) w = absurd w
lone_first (Ended older head rows last status) w = absurd w
lone_first (Broken older head rows last) w = absurd w

-- among rows, a payload that is no row, end or error changes nothing
abbrev pub is_item : Kind → Bool
is_item kinds.Row = true
is_item (kinds.End s) = true
is_item k = false

pub head_in_rows : (rows : List RowParts) (x : Sets) → IsFirst rows x → is_head (spot_in x) ≡ true → ⊥
head_in_rows rows (NoSets asking) w e = w
head_in_rows rows (Lone older p status) w e = w
head_in_rows rows (Failed older p) w e = w
head_in_rows rows (Heading older head left) w e = w
head_in_rows rows (Headed older head) w e = w
head_in_rows rows (Begun older head ps) w e = cc
head_in_rows rows (Ended older head ps last status) w e = w
head_in_rows rows (Broken older head ps last) w e = w

column_first : (rows : List RowParts) (d : Bool) (x : Sets) (q : List ℕ) → IsFirst rows x → IsFirst rows (with_column d x q)
column_first rows d (NoSets asking) q w = absurd w
column_first rows d (Lone older p status) q w = absurd w
column_first rows d (Failed older p) q w = absurd w
column_first rows d (Heading older head left) q w = absurd w
column_first rows d (Headed older head) q w = absurd w
column_first rows d (Begun older head ps) q w = w
column_first rows d (Ended older head ps last status) q w = absurd w
column_first rows d (Broken older head ps last) q w = absurd w

close_first : (rows : List RowParts) (x : Sets) (q : List ℕ) → IsFirst rows x → IsFirst rows (with_close x q)
close_first rows (NoSets asking) q w = absurd w
close_first rows (Lone older p status) q w = absurd w
close_first rows (Failed older p) q w = absurd w
close_first rows (Heading older head left) q w = absurd w
close_first rows (Headed older head) q w = absurd w
close_first rows (Begun older head ps) q w = w
close_first rows (Ended older head ps last status) q w = absurd w
close_first rows (Broken older head ps last) q w = absurd w

pub first_grows : (rows : List RowParts) (d : Bool) (k : Kind) (x : Sets) (q : List ℕ) → is_failed k ≡ false → is_item k ≡ false → FitSets d (grow_sets d k x q) → IsFirst rows x → IsFirst rows (grow_sets d k x q)
first_grows rows d (kinds.Greets n) x q calm other f w = w
first_grows rows d (kinds.Asks n) x q calm other f w = w
first_grows rows d (kinds.Good s) x q calm other f w = absurd (head_in_rows rows x w f.0)
first_grows rows d kinds.Failed x q calm other f w = absurd (cc)
first_grows rows d (kinds.Count n) x q calm other f w = absurd (head_in_rows rows x w f.0.place)
first_grows rows d kinds.Column x q calm other f w = column_first rows d x q w
first_grows rows d kinds.ColumnsDone x q calm other f w = close_first rows x q w
first_grows rows d kinds.Row x q calm other f w = absurd (cc)
first_grows rows d (kinds.End s) x q calm other f w = absurd (cc)
first_grows rows d (kinds.Prepared m n) x q calm other f w = w
first_grows rows d kinds.Parameter x q calm other f w = w
first_grows rows d kinds.Field x q calm other f w = w
first_grows rows d kinds.Bad x q calm other f w = w

-- the first row of the first set
pub first_begins : (r : RowParts) (x : Sets) → IsFirst (r ∷ []) x → HasFirst (BeginsWith r) x
first_begins r (NoSets asking) w = absurd w
first_begins r (Lone older p status) w = absurd w
first_begins r (Failed older p) w = absurd w
first_begins r (Heading older head left) w = absurd w
first_begins r (Headed older head) w = absurd w
first_begins r (Begun older head ps) w =
    let made : Set = record { rows = rows_in (format_in older) (head_columns head) ps; done = false } in
    ([], made, ap (λ (ss : List Set). made ∷ ss) (none_sets older w.0), ([], w.1))
first_begins r (Ended older head ps last status) w = absurd w
first_begins r (Broken older head ps last) w = absurd w

-- What holds of a set while it grows, holds of the first set as more is read.
pub record Grows (holds : Set → Type 0) : Type 0 where
  pub row : (r : RowParts) (rows : List RowParts) → holds (record { rows = rows; done = false }) → holds (record { rows = r ∷ rows; done = false })
  pub stop : (rows : List RowParts) → holds (record { rows = rows; done = false }) → holds (record { rows = rows; done = true })

pub whole_grows : (rows : List RowParts) → Grows (IsWhole rows)
whole_grows rows = record { row = λ r rs w. let no = w.1 in absurd (cc); stop = λ rs w. (w.0, refl) }

pub begins_grows : (row : RowParts) → Grows (BeginsWith row)
begins_grows row = record { row = λ r rs w. (r ∷ w.0, ap (λ xs. r ∷ xs) w.1); stop = λ rs w. w }

module _ (holds : Set → Type 0) (grows : Grows holds) where
  more_set : (u : Set) (ss : List Set) → Oldest holds ss → Oldest holds (u ∷ ss)
  more_set u ss w = (u ∷ w.0, w.1, ap (λ (xs : List Set). u ∷ xs) w.2, w.3)

  newest_set : (u v : Set) (ss : List Set) → (holds u → holds v) → Oldest holds (u ∷ ss) → Oldest holds (v ∷ ss)
  newest_set u v ss so w = by_later w.0 w.2
    where
      by_later : (later : List Set) → u ∷ ss ≡ later ++ w.1 ∷ [] → Oldest holds (v ∷ ss)
      by_later [] is = let same : w.1 ≡ u = cc in let none : ss ≡ [] = cc in ([], v, ap (λ (xs : List Set). v ∷ xs) none, so (subst holds same w.3))
      by_later (l ∷ later) is = let tail : ss ≡ later ++ w.1 ∷ [] = cc in (v ∷ later, w.1, ap (λ (xs : List Set). v ∷ xs) tail, w.3)

  column_keeps : (d last : Bool) (older : Sets) (head : SetHead) (left : ℕ) → Oldest holds (record { rows = []; done = false } ∷ sets_in older) → Oldest holds (sets_in (cond last (cond d (Begun older head []) (Headed older head)) (Heading older head left)))
  column_keeps true true older head left w = w
  column_keeps false true older head left w = w
  column_keeps d false older head left w = w

  with_column_keeps : (d : Bool) (x : Sets) (q : List ℕ) → Oldest holds (sets_in x) → Oldest holds (sets_in (with_column d x q))
  with_column_keeps d (NoSets asking) q w = w
  with_column_keeps d (Lone older p t) q w = w
  with_column_keeps d (Failed older p) q w = w
  with_column_keeps d (Heading older head left) q w = column_keeps d (leb left 1) older (with_column_of head q) (left - 1) w
  with_column_keeps d (Headed older head) q w = w
  with_column_keeps d (Begun older head rows) q w = w
  with_column_keeps d (Ended older head rows last t) q w = w
  with_column_keeps d (Broken older head rows last) q w = w

  with_close_keeps : (x : Sets) (q : List ℕ) → Oldest holds (sets_in x) → Oldest holds (sets_in (with_close x q))
  with_close_keeps (NoSets asking) q w = w
  with_close_keeps (Lone older p t) q w = w
  with_close_keeps (Failed older p) q w = w
  with_close_keeps (Heading older head left) q w = w
  with_close_keeps (Headed older head) q w = w
  with_close_keeps (Begun older head rows) q w = w
  with_close_keeps (Ended older head rows last t) q w = w
  with_close_keeps (Broken older head rows last) q w = w

  with_row_keeps : (x : Sets) (q : List ℕ) → Oldest holds (sets_in x) → Oldest holds (sets_in (with_row x q))
  with_row_keeps (NoSets asking) q w = w
  with_row_keeps (Lone older p t) q w = w
  with_row_keeps (Failed older p) q w = w
  with_row_keeps (Heading older head left) q w = w
  with_row_keeps (Headed older head) q w = w
  with_row_keeps (Begun older head rows) q w = newest_set _ _ (sets_in older) (λ h. grows.row (row_of (format_in older) (head_columns head) q) (rows_in (format_in older) (head_columns head) rows) h) w
  with_row_keeps (Ended older head rows last t) q w = w
  with_row_keeps (Broken older head rows last) q w = w

  with_end_keeps : (x : Sets) (q : List ℕ) (t : StatusFlags) → Oldest holds (sets_in x) → Oldest holds (sets_in (with_end x q t))
  with_end_keeps (NoSets asking) q t w = w
  with_end_keeps (Lone older p u) q t w = w
  with_end_keeps (Failed older p) q t w = w
  with_end_keeps (Heading older head left) q t w = w
  with_end_keeps (Headed older head) q t w = w
  with_end_keeps (Begun older head rows) q t w = newest_set _ _ (sets_in older) (λ h. grows.stop (rows_in (format_in older) (head_columns head) rows) h) w
  with_end_keeps (Ended older head rows last u) q t w = w
  with_end_keeps (Broken older head rows last) q t w = w

  with_error_keeps : (x : Sets) (q : List ℕ) → Oldest holds (sets_in x) → Oldest holds (sets_in (with_error x q))
  with_error_keeps (NoSets asking) q w = more_set _ _ w
  with_error_keeps (Lone older p t) q w = more_set _ _ w
  with_error_keeps (Failed older p) q w = more_set _ _ w
  with_error_keeps (Heading older head left) q w = more_set _ _ w
  with_error_keeps (Headed older head) q w = more_set _ _ w
  with_error_keeps (Begun older head rows) q w = w
  with_error_keeps (Ended older head rows last t) q w = more_set _ _ w
  with_error_keeps (Broken older head rows last) q w = more_set _ _ w

  pub grow_keeps : (d : Bool) (k : Kind) (x : Sets) (q : List ℕ) → Oldest holds (sets_in x) → Oldest holds (sets_in (grow_sets d k x q))
  grow_keeps d (kinds.Greets n) x q w = w
  grow_keeps d (kinds.Asks n) x q w = w
  grow_keeps d (kinds.Good t) x q w = more_set _ _ w
  grow_keeps d kinds.Failed x q w = with_error_keeps x q w
  grow_keeps d (kinds.Count n) x q w = more_set _ _ w
  grow_keeps d kinds.Column x q w = with_column_keeps d x q w
  grow_keeps d kinds.ColumnsDone x q w = with_close_keeps x q w
  grow_keeps d kinds.Row x q w = with_row_keeps x q w
  grow_keeps d (kinds.End t) x q w = with_end_keeps x q t w
  grow_keeps d (kinds.Prepared m n) x q w = w
  grow_keeps d kinds.Parameter x q w = w
  grow_keeps d kinds.Field x q w = w
  grow_keeps d kinds.Bad x q w = w
