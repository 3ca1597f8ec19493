-- What callers of a tape were given of a response is, set by set, a beginning of what the grammar finds in its bytes.
use Rattle.std.proofs.Common.{◌≡◌, ℕ, ◌-◌, List, [], ◌∷◌, ◌++◌, Bool, true, false, cond, leb, Option, Some, None, refl, sym, ap, ◌∙◌, subst}
use Rattle.std.proofs.lemmas.List.{append_assoc}
use Rattle.my_flags.specs.declared.flags.StatusFlags.{StatusFlags}
use Rattle.my_reply.specs.declared.column.Column.{Column}
use Rattle.my_value.specs.RowParts.{RowParts}
use Rattle.my_grammar.specs.declared.packet.Packet.{Packet}
use Rattle.my_grammar.specs.declared.spot.Kind.{Kind}
use Rattle.my_grammar.specs.declared.spot.Kind.TheVariants as kinds
use Rattle.my_grammar.specs.declared.spot.RowFormat.{RowFormat}
use Rattle.my_grammar.specs.FitSets.{FitSets, is_head}
use Rattle.my_grammar.specs.Sets.{SetHead, Sets, NoSets, Lone, Failed, Heading, Headed, Begun, Ended, Broken, format_in, head_columns, spot_in, grow_sets, with_column, with_column_of, with_close, with_row, with_end, with_error}
use Rattle.my_grammar.specs.Talk.{Talk}
use Rattle.my_reading.specs.Rows.{row_of}
use Rattle.history_laws.specs.Found.{AreGivenIn}
use Rattle.history_laws.specs.Fronts.{Set, rows_in, sets_in, AreWhole, IsPart, Covers, IsFront, IsFrontOf, AreFronts, EachIsFronted}
use Rattle.history_laws.specs.Given.{IsGiven}
use Rattle.history_laws.specs.Groups.{Group, groups, with_item, with_items, with_stop, grown}
use Rattle.history_laws.proofs.Finding.{each_is_found}

abbrev shut : Group
shut = record { rows = []; ended = true }

stop_whole : (gs : List Group) (ss : List Set) → AreWhole gs ss → with_stop gs ≡ shut ∷ gs
stop_whole [] ss w = refl
stop_whole (g ∷ gs) [] w = absurd w
stop_whole (g ∷ gs) (s ∷ ss) w = ap (λ b. cond b (shut ∷ g ∷ gs) (record { rows = g.rows; ended = true } ∷ gs)) w.1

first_item : (r : RowParts) (gs : List Group) (ss : List Set) → AreWhole gs ss → with_item r gs ≡ record { rows = r ∷ []; ended = false } ∷ gs
first_item r [] ss w = refl
first_item r (g ∷ gs) [] w = absurd w
first_item r (g ∷ gs) (s ∷ ss) w = ap (λ b. cond b (record { rows = r ∷ []; ended = false } ∷ g ∷ gs) (record { rows = r ∷ g.rows; ended = false } ∷ gs)) w.1

module _ (format : RowFormat) (columns : List Column) where
  items_whole : (p : List ℕ) (ps : List (List ℕ)) (gs : List Group) (ss : List Set) → AreWhole gs ss → with_items format columns (p ∷ ps) gs ≡ record { rows = rows_in format columns (p ∷ ps); ended = false } ∷ gs
  items_whole p [] gs ss w = first_item (row_of format columns p) gs ss w
  items_whole p (q ∷ ps) gs ss w = ap (with_item (row_of format columns p)) (items_whole q ps gs ss w)

  end_whole : (ps : List (List ℕ)) (gs : List Group) (ss : List Set) → AreWhole gs ss → with_stop (with_items format columns ps gs) ≡ record { rows = rows_in format columns ps; ended = true } ∷ gs
  end_whole [] gs ss w = stop_whole gs ss w
  end_whole (p ∷ ps) gs ss w = ap with_stop (items_whole p ps gs ss w)

-- where a head comes next, all was given
whole_at_head : (d : Bool) (x : Sets) → FitSets d x → is_head (spot_in x) ≡ true → AreWhole (groups x) (sets_in x)
whole_at_head d (NoSets asking) f h = tt
whole_at_head d (Lone older p status) f h =
    let w = whole_at_head d older f.2 f.0 in
    subst (λ (gs : List Group). AreWhole gs (sets_in (Lone older p status))) (sym (stop_whole (groups older) (sets_in older) w)) (refl, refl, refl, w)
whole_at_head d (Ended older head rows last status) f h =
    let w = whole_at_head d older f.2 f.0.heading.place in
    subst (λ (gs : List Group). AreWhole gs (sets_in (Ended older head rows last status))) (sym (end_whole (format_in older) (head_columns head) rows (groups older) (sets_in older) w)) (refl, refl, refl, w)
whole_at_head d _ f h = cc

part : (g : Group) (s : Set) → g.rows ≡ s.rows → (g.ended ≡ true → s.done ≡ true) → IsPart g s
part g s e f = record { newer = []; items = e; end = λ h. (refl, f h) }

covers_whole : (gs : List Group) (ss : List Set) → AreWhole gs ss → Covers gs ss
covers_whole [] [] w = tt
covers_whole [] (s ∷ ss) w = absurd w
covers_whole (g ∷ gs) [] w = absurd w
covers_whole (g ∷ gs) (s ∷ ss) w = (part g s w.0 (λ _. w.2), w.3)

-- a set more, of which nothing was given
none_of : (s : Set) (gs : List Group) (ss : List Set) → AreWhole gs ss → IsFront gs (s ∷ ss)
none_of s gs ss w = record { newer = s ∷ []; older = ss; all = refl; covers = covers_whole gs ss w }

-- rows that were begun, or broken off
begun_front : (format : RowFormat) (columns : List Column) (rows : List (List ℕ)) (gs : List Group) (ss : List Set) → AreWhole gs ss → IsFront (with_items format columns rows gs) (record { rows = rows_in format columns rows; done = false } ∷ ss)
begun_front format columns [] gs ss w = none_of (record { rows = []; done = false }) gs ss w
begun_front format columns (p ∷ ps) gs ss w = record { newer = []; older = record { rows = rows_in format columns (p ∷ ps); done = false } ∷ ss; all = refl; covers = subst (λ (xs : List Group). Covers xs (record { rows = rows_in format columns (p ∷ ps); done = false } ∷ ss)) (sym (items_whole format columns p ps gs ss w)) (part _ _ refl (λ h. h), w) }

now_front : (d : Bool) (x : Sets) → FitSets d x → IsFront (groups x) (sets_in x)
now_front d (NoSets asking) f = record { newer = []; older = []; all = refl; covers = tt }
now_front d (Lone older p status) f =
    let w = whole_at_head d older f.2 f.0 in
    record { newer = []; older = sets_in (Lone older p status); all = refl; covers = subst (λ (gs : List Group). Covers gs (sets_in (Lone older p status))) (sym (stop_whole (groups older) (sets_in older) w)) (part _ _ refl (λ h. h), w) }
now_front d (Failed older p) f = none_of (record { rows = []; done = false }) (groups older) (sets_in older) (whole_at_head d older f.2 f.0)
now_front d (Heading older head left) f = none_of (record { rows = []; done = false }) (groups older) (sets_in older) (whole_at_head d older f.3 f.0.place)
now_front d (Headed older head) f = none_of (record { rows = []; done = false }) (groups older) (sets_in older) (whole_at_head d older f.3 f.0.place)
now_front d (Begun older head rows) f = begun_front (format_in older) (head_columns head) rows (groups older) (sets_in older) (whole_at_head d older f.1 f.0.heading.place)
now_front d (Ended older head rows last status) f =
    let w = whole_at_head d older f.2 f.0.heading.place in
    record { newer = []; older = sets_in (Ended older head rows last status); all = refl; covers = subst (λ (gs : List Group). Covers gs (sets_in (Ended older head rows last status))) (sym (end_whole (format_in older) (head_columns head) rows (groups older) (sets_in older) w)) (part _ _ refl (λ h. h), w) }
now_front d (Broken older head rows last) f = begun_front (format_in older) (head_columns head) rows (groups older) (sets_in older) (whole_at_head d older f.2 f.0.heading.place)

-- a set more after
more_set : (gs : List Group) (ss : List Set) (s : Set) → IsFront gs ss → IsFront gs (s ∷ ss)
more_set gs ss s f = record { newer = s ∷ f.newer; older = f.older; all = ap (λ xs. s ∷ xs) f.all; covers = f.covers }

-- the newest set grows, by newer rows or by its end
grow_newest : (gs : List Group) (s u : Set) (ss newer older : List Set) → (more : List RowParts) × (u.rows ≡ more ++ s.rows) → s.done ≡ false → s ∷ ss ≡ newer ++ older → Covers gs older → IsFront gs (u ∷ ss)
grow_newest [] s u ss [] [] m d all c = cc
grow_newest [] s u ss [] (o ∷ older) m d all c = absurd c
grow_newest (g ∷ gs) s u ss [] [] m d all c = absurd c
grow_newest (g ∷ gs) s u ss [] (o ∷ older) m d all c =
    let head : s ≡ o = cc in
    let tail : ss ≡ older = cc in
    let p : IsPart g s = subst (IsPart g) (sym head) c.0 in
    record { newer = []; older = u ∷ ss; all = refl; covers = (record { newer = m.0 ++ p.newer; items = append_assoc m.0 p.newer g.rows ∙ ap (λ rs. m.0 ++ rs) p.items ∙ sym m.1; end = λ h. let no : s.done ≡ true = (p.end h).1 in cc }, subst (AreWhole gs) (sym tail) c.1) }
grow_newest gs s u ss (n ∷ newer) older m d all c =
    let tail : ss ≡ newer ++ older = cc in
    record { newer = u ∷ newer; older = older; all = ap (λ xs. u ∷ xs) tail; covers = c }

row_front : (gs : List Group) (x : Sets) (p : List ℕ) → IsFront gs (sets_in x) → IsFront gs (sets_in (with_row x p))
row_front gs (Begun older head rows) p f = grow_newest gs _ (record { rows = row_of (format_in older) (head_columns head) p ∷ rows_in (format_in older) (head_columns head) rows; done = false }) (sets_in older) f.newer f.older (row_of (format_in older) (head_columns head) p ∷ [], refl) refl f.all f.covers
row_front gs _ p f = f

end_front : (gs : List Group) (x : Sets) (p : List ℕ) (status : StatusFlags) → IsFront gs (sets_in x) → IsFront gs (sets_in (with_end x p status))
end_front gs (Begun older head rows) p status f = grow_newest gs _ (record { rows = rows_in (format_in older) (head_columns head) rows; done = true }) (sets_in older) f.newer f.older ([], refl) refl f.all f.covers
end_front gs _ p status f = f

error_front : (gs : List Group) (x : Sets) (p : List ℕ) → IsFront gs (sets_in x) → IsFront gs (sets_in (with_error x p))
error_front gs (NoSets asking) p f = more_set gs [] _ f
error_front gs (Begun older head rows) p f = f
error_front gs _ p f = more_set gs _ _ f

column_if : (gs : List Group) (d last : Bool) (older : Sets) (head : SetHead) (left : ℕ) (p : List ℕ) → IsFront gs (record { rows = []; done = false } ∷ sets_in older) → IsFront gs (sets_in (cond last (cond d (Begun older (with_column_of head p) []) (Headed older (with_column_of head p))) (Heading older (with_column_of head p) left)))
column_if gs true true older head left p f = f
column_if gs false true older head left p f = f
column_if gs d false older head left p f = f

column_front : (gs : List Group) (d : Bool) (x : Sets) (p : List ℕ) → IsFront gs (sets_in x) → IsFront gs (sets_in (with_column d x p))
column_front gs d (Heading older head left) p f = column_if gs d (leb left 1) older head (left - 1) p f
column_front gs d _ p f = f

close_front : (gs : List Group) (x : Sets) (p : List ℕ) → IsFront gs (sets_in x) → IsFront gs (sets_in (with_close x p))
close_front gs (NoSets asking) p f = f
close_front gs _ p f = f

grow_front : (gs : List Group) (d : Bool) (k : Kind) (x : Sets) (p : List ℕ) → IsFront gs (sets_in x) → IsFront gs (sets_in (grow_sets d k x p))
grow_front gs d (kinds.Good status) x p f = more_set gs (sets_in x) _ f
grow_front gs d kinds.Failed x p f = error_front gs x p f
grow_front gs d (kinds.Count n) x p f = more_set gs (sets_in x) _ f
grow_front gs d kinds.Column x p f = column_front gs d x p f
grow_front gs d kinds.ColumnsDone x p f = close_front gs x p f
grow_front gs d kinds.Row x p f = row_front gs x p f
grow_front gs d (kinds.End status) x p f = end_front gs x p status f
grow_front gs d _ x p f = f

grown_front : (gs : List Group) (d : Bool) (y : Sets) (ps : List Packet) → IsFront gs (sets_in y) → IsFront gs (sets_in (grown d y ps))
grown_front gs d y [] f = f
grown_front gs d y (p ∷ ps) f = grow_front gs d p.kind (grown d y ps) p.payload (grown_front gs d y ps f)

given_front : (g : Option (List Group)) (t : Talk) → IsGiven g t → IsFrontOf g t
given_front None t i = tt
given_front (Some gs) t i =
    subst (λ (x : Sets). IsFront gs (sets_in x)) (sym i.1.1) (grown_front gs _ i.0 i.1.0 (subst (λ (xs : List Group). IsFront xs (sets_in i.0)) (sym i.2) (now_front _ i.0 i.3)))

pub given_fronts : (gs : List (Option (List Group))) (ts : List Talk) → AreGivenIn gs ts → AreFronts gs ts
given_fronts [] [] a = tt
given_fronts [] (t ∷ ts) a = absurd a
given_fronts (g ∷ gs) [] a = absurd a
given_fronts (g ∷ gs) (t ∷ ts) a = (given_front g t a.0, given_fronts gs ts a.1)

pub each_is_fronted : EachIsFronted
each_is_fronted login t are w =
    let found = each_is_found login t are w in
    record { made = found.made; of_calls = found.of_calls; shares = found.shares; given_is = found.given_is; fronts = given_fronts _ _ found.found }
