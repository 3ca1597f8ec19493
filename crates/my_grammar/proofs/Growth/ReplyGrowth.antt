-- One payload more in the reply to a statement to prepare.
use Rattle.std.proofs.Common.{◌≡◌, ℕ, ◌-◌, ◌<◌, List, [], ◌∷◌, length, ◌==◌, ◌||◌, Bool, true, false, cond, leb, Option, Some, None, ◌⊎◌, inl, inr, refl, sym, ◌∙◌, subst, arith, add-zero}
use Rattle.std.proofs.lemmas.Bool.Decides.{nat_tests}
use Rattle.my_reply.specs.declared.column.Column.{Column as ColumnPacket}
use Rattle.my_reply.specs.declared.eof.EofPacket.{EofPacket}
use Rattle.my_reply.specs.declared.err.ErrPacket.{ErrPacket}
use Rattle.my_reply.specs.declared.replies.PrepareOk.{PrepareOk}
use Rattle.my_reply.specs.Column.{column_at}
use Rattle.my_reply.specs.EofPacket.{eof_at}
use Rattle.my_reply.specs.ErrPacket.{err_at}
use Rattle.my_reply.specs.Replies.{prepare_ok_at}
use Rattle.my_grammar.specs.declared.spot.RowFormat.TheVariants as formats
use Rattle.my_grammar.specs.declared.spot.Spot.{Spot}
use Rattle.my_grammar.specs.declared.spot.Spot.TheVariants as spots
use Rattle.my_grammar.specs.declared.spot.Kind.{Kind}
use Rattle.my_grammar.specs.declared.spot.Kind.TheVariants.{Failed, ColumnsDone, Prepared, Parameter, Field}
use Rattle.my_grammar.specs.Contexts.{after_parameters, spot_after, columns_after, is_bad}
use Rattle.my_grammar.specs.Growth.{is_calm, described_after}
use Rattle.my_grammar.specs.Kinds.{or_else, described_kind, done_kind, failed_kind, prepared_kind, prepare_kind, parameter_kind, field_kind, columns_end_kind, kind_by}
use Rattle.my_grammar.specs.FitSets.{IsClose}
use Rattle.my_grammar.specs.Prepares.{PreparedHead, Described, Reply, Unanswered, Refused, InParameters, AfterParameters, InFields, AfterFields, Complete, described_packets, head_packet, packets_in_reply, spot_in_reply, open_part, closed_part, with_parameters, grow_reply}
use Rattle.my_grammar.specs.FitReplies.{IsOpenPart, AwaitsClose, AreKnown, FitReply}
use Rattle.my_grammar.proofs.Growth.SetGrowth.{none}

-- The reply y is the reply r with this payload.
pub record Grown (d : Bool) (r y : Reply) (s : Spot) (k : Kind) (p : List ℕ) : Type 0 where
  pub spot : spot_in_reply y ≡ s
  pub columns : columns_after 0 k ≡ 0
  pub described : described_after [] k p ≡ []
  pub packets_are : packets_in_reply y ≡ record { kind = k; payload = p } ∷ packets_in_reply r
  pub fits : FitReply d y
  pub other : is_calm k ≡ true

pub record GrowsReply (d : Bool) (r : Reply) (k : Kind) (p : List ℕ) : Type 0 where
  pub grown : Grown d r (grow_reply d k r p) (spot_after d (spot_in_reply r) k) k p

-- what a payload is that fits a place where one form alone does
is_described : (k l : Kind) (o : Option ColumnPacket) → described_kind k o ≡ l → is_bad l ≡ false → k ≡ l
is_described k l None e b = absurd (none l e b)
is_described k l (Some c) e b = e

is_done : (l : Kind) (o : Option EofPacket) → done_kind o ≡ l → is_bad l ≡ false → ColumnsDone ≡ l
is_done l None e b = absurd (none l e b)
is_done l (Some c) e b = e

-- the head has its numbers
record Heads (k : Kind) : Type 0 where
  head : PrepareOk
  is : Prepared head.params head.columns ≡ k

answers : (k : Kind) (o : Option PrepareOk) (x : Option ErrPacket) → or_else (prepared_kind o) (failed_kind x) ≡ k → is_bad k ≡ false → Heads k ⊎ (Failed ≡ k)
answers k None None e b = absurd (none k e b)
answers k None (Some x) e b = inr e
answers k (Some head) x e b = inl (record { head = head; is = e })

-- no EOF follows where no packet is, or where the server deprecates it
close_none : (d : Bool) (n : ℕ) → (n == 0) ≡ true → IsClose (d || (n == 0)) None
close_none true n e = tt
close_none false n e = subst (λ b. IsClose b None) (sym e) tt

closed_by : (d : Bool) (n : ℕ) (p : List ℕ) → d ≡ false → 0 < n → columns_end_kind p ≡ ColumnsDone → IsClose (d || (n == 0)) (Some p)
closed_by d n p e some k =
    let more : (n == 0) ≡ false = grind (arith, nat_tests) in
    subst (λ (d : Bool). IsClose (d || (n == 0)) (Some p)) (sym e) (subst (λ b. IsClose b (Some p)) (sym more) k)

-- What is awaited once the parameters are whole.
record Whole (d : Bool) (h : PreparedHead) (w : Described) (y : Reply) (s : Spot) : Type 0 where
  spot : spot_in_reply y ≡ s
  packets_are : packets_in_reply y ≡ described_packets Parameter w (head_packet h)
  fits : FitReply d y

parameters_whole : (d : Bool) (h : PreparedHead) (w : Described) → AreKnown d h w → Whole d h w (with_parameters h w) (after_parameters h.columns)
parameters_whole d h w known = by_none (h.columns == 0) refl
  where
    by_none : (t : Bool) → (h.columns == 0) ≡ t → Whole d h w (cond t (Complete h w (open_part [])) (InFields h w [] h.columns)) (cond t spots.Idle (spots.Fields h.columns))
    by_none true e = record { spot = refl; packets_are = refl; fits = (known, tt, record { number = grind (arith, nat_tests); close = close_none d h.columns e }) }
    by_none false e = record { spot = refl; packets_are = refl; fits = (known, tt, record { number = add-zero h.columns; some = grind (arith, nat_tests) }) }

head_grown : (d : Bool) (params columns : ℕ) (p : List ℕ) → prepare_kind p ≡ Prepared params columns → GrowsReply d Unanswered (Prepared params columns) p
head_grown d params columns p e = record { grown = by_none (params == 0) refl }
  where
    h : PreparedHead
    h = record { payload = p; params = params; columns = columns }

    by_none : (t : Bool) → (params == 0) ≡ t → Grown d Unanswered (cond t (with_parameters h (open_part [])) (InParameters h [] params)) (cond t (after_parameters columns) (spots.Parameters params columns)) (Prepared params columns) p
    by_none true z =
        let w = parameters_whole d h (open_part []) (record { head_is = e; are = tt; all = record { number = grind (arith, nat_tests); close = close_none d params z } }) in
        record { spot = w.spot; columns = refl; described = refl; packets_are = w.packets_are; fits = w.fits; other = refl }
    by_none false z = record { spot = refl; columns = refl; described = refl; packets_are = refl; fits = (e, tt, record { number = add-zero params; some = grind (arith, nat_tests) }); other = refl }

-- one packet more of a part
more_open : (n left : ℕ) (p : List ℕ) (ps : List (List ℕ)) → IsOpenPart n ps left → leb left 1 ≡ false → IsOpenPart n (p ∷ ps) (left - 1)
more_open n left p ps w t =
    let number = w.number in
    record { number = grind (arith, nat_tests); some = grind (arith, nat_tests) }

last_number : (n left : ℕ) (p : List ℕ) (ps : List (List ℕ)) → IsOpenPart n ps left → leb left 1 ≡ true → length (p ∷ ps) ≡ n
last_number n left p ps w t =
    let number = w.number in
    let some = w.some in
    grind (arith, nat_tests)

awaits_close : (n : ℕ) (p : List ℕ) (ps : List (List ℕ)) → length (p ∷ ps) ≡ n → AwaitsClose false n (p ∷ ps)
awaits_close n p ps e = record { number = e; some = omega arith; plain = refl }

parameter_if : (d : Bool) (h : PreparedHead) (ps : List (List ℕ)) (left : ℕ) (p : List ℕ) → parameter_kind p ≡ Parameter → FitReply d (InParameters h ps left) → (t : Bool) → leb left 1 ≡ t
    → Grown d (InParameters h ps left) (cond t (cond d (with_parameters h (open_part (p ∷ ps))) (AfterParameters h (p ∷ ps))) (InParameters h (p ∷ ps) (left - 1))) (cond t (cond d (after_parameters h.columns) (spots.ParametersEnd h.columns)) (spots.Parameters (left - 1) h.columns)) Parameter p
parameter_if true h ps left p e f true t =
    let w = parameters_whole true h (open_part (p ∷ ps)) (record { head_is = f.0; are = (e, f.1); all = record { number = last_number h.params left p ps f.2 t; close = tt } }) in
    record { spot = w.spot; columns = refl; described = refl; packets_are = w.packets_are; fits = w.fits; other = refl }
parameter_if false h ps left p e f true t = record { spot = refl; columns = refl; described = refl; packets_are = refl; fits = (f.0, (e, f.1), awaits_close h.params p ps (last_number h.params left p ps f.2 t)); other = refl }
parameter_if d h ps left p e f false t = record { spot = refl; columns = refl; described = refl; packets_are = refl; fits = (f.0, (e, f.1), more_open h.params left p ps f.2 t); other = refl }

field_if : (d : Bool) (h : PreparedHead) (w : Described) (ps : List (List ℕ)) (left : ℕ) (p : List ℕ) → field_kind p ≡ Field → FitReply d (InFields h w ps left) → (t : Bool) → leb left 1 ≡ t
    → Grown d (InFields h w ps left) (cond t (cond d (Complete h w (open_part (p ∷ ps))) (AfterFields h w (p ∷ ps))) (InFields h w (p ∷ ps) (left - 1))) (cond t (cond d spots.Idle spots.FieldsEnd) (spots.Fields (left - 1))) Field p
field_if true h w ps left p e f true t = record { spot = refl; columns = refl; described = refl; packets_are = refl; fits = (f.0, (e, f.1), record { number = last_number h.columns left p ps f.2 t; close = tt }); other = refl }
field_if false h w ps left p e f true t = record { spot = refl; columns = refl; described = refl; packets_are = refl; fits = (f.0, (e, f.1), awaits_close h.columns p ps (last_number h.columns left p ps f.2 t)); other = refl }
field_if d h w ps left p e f false t = record { spot = refl; columns = refl; described = refl; packets_are = refl; fits = (f.0, (e, f.1), more_open h.columns left p ps f.2 t); other = refl }

-- an EOF after the parameters, or after the columns
parameters_closed : (d : Bool) (h : PreparedHead) (ps : List (List ℕ)) (p : List ℕ) → columns_end_kind p ≡ ColumnsDone → FitReply d (AfterParameters h ps) → GrowsReply d (AfterParameters h ps) ColumnsDone p
parameters_closed d h ps p e f =
    let a = f.2 in
    let w = parameters_whole d h (closed_part ps p) (record { head_is = f.0; are = f.1; all = record { number = a.number; close = closed_by d h.params p a.plain a.some e } }) in
    record { grown = record { spot = w.spot; columns = refl; described = refl; packets_are = w.packets_are; fits = w.fits; other = refl } }

fields_closed : (d : Bool) (h : PreparedHead) (w : Described) (ps : List (List ℕ)) (p : List ℕ) → columns_end_kind p ≡ ColumnsDone → FitReply d (AfterFields h w ps) → GrowsReply d (AfterFields h w ps) ColumnsDone p
fields_closed d h w ps p e f =
    let a = f.2 in
    record { grown = record { spot = refl; columns = refl; described = refl; packets_are = refl; fits = (f.0, f.1, record { number = a.number; close = closed_by d h.columns p a.plain a.some e }); other = refl } }

pub grows_reply : (d : Bool) (r : Reply) (k : Kind) (p : List ℕ) → kind_by (spot_in_reply r) formats.Text d 0 [] p ≡ k → is_bad k ≡ false → FitReply d r → GrowsReply d r k p
grows_reply d Unanswered k p e b f =
    elim (answers k (prepare_ok_at p) (err_at false p) e b) [
      | inl w ↦ let h = w.head in subst (λ k. GrowsReply d Unanswered k p) w.is (head_grown d h.params h.columns p (e ∙ sym w.is))
      | inr is ↦ subst (λ k. GrowsReply d Unanswered k p) is (record { grown = record { spot = refl; columns = refl; described = refl; packets_are = refl; fits = e ∙ sym is; other = refl } })
    ]
grows_reply d (Refused q) k p e b f = absurd (none k e b)
grows_reply d (InParameters h ps left) k p e b f =
    let is = is_described Parameter k (column_at p) e b in
    subst (λ k. GrowsReply d (InParameters h ps left) k p) is (record { grown = parameter_if d h ps left p (e ∙ sym is) f (leb left 1) refl })
grows_reply d (AfterParameters h ps) k p e b f =
    let is = is_done k (eof_at p) e b in
    subst (λ k. GrowsReply d (AfterParameters h ps) k p) is (parameters_closed d h ps p (e ∙ sym is) f)
grows_reply d (InFields h w ps left) k p e b f =
    let is = is_described Field k (column_at p) e b in
    subst (λ k. GrowsReply d (InFields h w ps left) k p) is (record { grown = field_if d h w ps left p (e ∙ sym is) f (leb left 1) refl })
grows_reply d (AfterFields h w ps) k p e b f =
    let is = is_done k (eof_at p) e b in
    subst (λ k. GrowsReply d (AfterFields h w ps) k p) is (fields_closed d h w ps p (e ∙ sym is) f)
grows_reply d (Complete h w v) k p e b f = absurd (none k e b)
