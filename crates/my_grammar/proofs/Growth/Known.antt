-- Which kinds a payload can have in its context.
use Rattle.std.proofs.Common.{◌≡◌, ℕ, List, Bool, true, false, cond, leb, ltb, ◌&&◌, Option, Some, None, ◌⊎◌, inl, inr, refl, sym, subst, arith}
use Rattle.std.proofs.lemmas.Bool.Decides.{nat_tests}
use Rattle.my_flags.specs.declared.flags.CapabilityFlags.{CapabilityFlags}
use Rattle.my_flags.specs.declared.flags.StatusFlags.{StatusFlags}
use Rattle.my_flags.specs.Sets.{deprecates_eof, has_more_results}
use Rattle.my_reply.specs.OkPacket.{ok_at, end_ok_at}
use Rattle.my_reply.specs.ErrPacket.{err_at}
use Rattle.my_reply.specs.EofPacket.{eof_at}
use Rattle.my_reply.specs.Replies.{prepare_ok_at}
use Rattle.my_frame.specs.Numbers.{len_at}
use Rattle.my_handshake.specs.Greeting.{greeting_at}
use Rattle.my_reply.specs.declared.column_count.ColumnCount.{ColumnCount}
use Rattle.my_reply.specs.ColumnCount.{column_count_at, skipped_at}
use Rattle.my_reply.specs.Column.{column_at}
use Rattle.my_frame.proofs.NumberLaws.{bind_then, passed}
use Rattle.my_reply.specs.declared.column.Column.{Column as ColumnPacket}
use Rattle.my_grammar.specs.declared.spot.RowFormat.{RowFormat}
use Rattle.my_grammar.specs.declared.spot.Spot.{Spot}
use Rattle.my_grammar.specs.declared.spot.Spot.TheVariants as spots
use Rattle.my_grammar.specs.declared.spot.Kind.{Kind}
use Rattle.my_grammar.specs.declared.spot.Offer.{Offer}
use Rattle.my_grammar.specs.declared.spot.Kind.TheVariants.{Greets, Asks, Good, Failed, Count, Column, ColumnsDone, Row, End, Prepared, Parameter, Field, Bad}
use Rattle.my_grammar.specs.Contexts.{more, after_head, spot_after}
use Rattle.my_grammar.specs.Kinds.{or_else, is_caching, good_kind, failed_kind, count_kind, greets_kind, described_kind, prepared_kind, done_kind, ended_kind, eof_kind, cells_at, cells_kind, greeting_kind, single_kind, head_kind, column_kind, columns_end_kind, end_kind, row_kind, prepare_kind, parameter_kind, field_kind, kind_by}
use Rattle.my_grammar.specs.FitSets.{is_head}

-- what may come in a place, as tests
abbrev pub is_greeting_kind : Kind → Bool
is_greeting_kind (Greets offer) = true
is_greeting_kind Failed = true
is_greeting_kind Bad = true
is_greeting_kind k = false

abbrev pub is_single_kind : Kind → Bool
is_single_kind (Good status) = true
is_single_kind Failed = true
is_single_kind Bad = true
is_single_kind k = false

abbrev pub is_head_kind : Kind → Bool
is_head_kind (Good status) = true
is_head_kind Failed = true
is_head_kind (Count n) = leb 1 n
is_head_kind Bad = true
is_head_kind k = false

abbrev pub is_column_kind : Kind → Bool
is_column_kind Column = true
is_column_kind Bad = true
is_column_kind k = false

abbrev pub is_close_kind : Kind → Bool
is_close_kind ColumnsDone = true
is_close_kind Bad = true
is_close_kind k = false

abbrev pub is_row_kind : Kind → Bool
is_row_kind Row = true
is_row_kind (End status) = true
is_row_kind Failed = true
is_row_kind Bad = true
is_row_kind k = false

abbrev pub is_prepare_kind : Kind → Bool
is_prepare_kind (Prepared params columns) = true
is_prepare_kind Failed = true
is_prepare_kind Bad = true
is_prepare_kind k = false

abbrev pub is_parameter_kind : Kind → Bool
is_parameter_kind Parameter = true
is_parameter_kind Bad = true
is_parameter_kind k = false

abbrev pub is_field_kind : Kind → Bool
is_field_kind Field = true
is_field_kind Bad = true
is_field_kind k = false

-- what holds of both forms holds of the one that the payload has
either : (P : Kind → Bool) (k l : Kind) → P k ≡ true → P l ≡ true → P (or_else k l) ≡ true
either P (Greets offer) l a b = a
either P (Asks ask) l a b = a
either P (Good status) l a b = a
either P Failed l a b = a
either P (Count n) l a b = a
either P Column l a b = a
either P ColumnsDone l a b = a
either P Row l a b = a
either P (End status) l a b = a
either P (Prepared params columns) l a b = a
either P Parameter l a b = a
either P Field l a b = a
either P Bad l a b = b

failed : (P : Kind → Bool) → P Bad ≡ true → P Failed ≡ true → (b : Bool) (p : List ℕ) → P (failed_kind (err_at b p)) ≡ true
failed P bad is b p = elim (err_at b p) as (λ o. P (failed_kind o) ≡ true) [ None ↦ bad | Some e ↦ is ]

good : (P : Kind → Bool) → P Bad ≡ true → ((s : StatusFlags) → P (Good s) ≡ true) → (p : List ℕ) → P (good_kind (ok_at p)) ≡ true
good P bad is p = elim (ok_at p) as (λ o. P (good_kind o) ≡ true) [ None ↦ bad | Some ok ↦ is ok.status ]

offer_if : (t : Bool) (offer : Offer) → is_greeting_kind (cond t (Greets offer) Bad) ≡ true
offer_if true offer = refl
offer_if false offer = refl

-- a count is no zero
some : (p : List ℕ) (c : ColumnCount) → column_count_at false p ≡ Some c → leb 1 c.count ≡ true
some p c e =
    bind_then (len_at p) _ c e (λ a ea na.
    bind_then (skipped_at false a.1) _ c na (λ b eb nb.
    let fields : ColumnCount = record { count = a.0; skipped = b } in
    let w = passed (ltb 0 a.0 && leb a.0 65535) fields c nb in
    let t = w.0 in
    let here : leb 1 a.0 ≡ true = grind (arith, nat_tests) in
    subst (λ (x : ColumnCount). leb 1 x.count ≡ true) {x = fields} w.1 here))

counted : (p : List ℕ) (o : Option ColumnCount) → column_count_at false p ≡ o → is_head_kind (count_kind o) ≡ true
counted p None e = refl
counted p (Some c) e = some p c e

pub known_greeting : (p : List ℕ) → is_greeting_kind (greeting_kind p) ≡ true
known_greeting p =
    either is_greeting_kind (greets_kind (greeting_at p)) (failed_kind (err_at true p))
    (elim (greeting_at p) as (λ o. is_greeting_kind (greets_kind o) ≡ true) [ None ↦ refl | Some g ↦ offer_if (deprecates_eof g.capabilities) (record { capabilities = g.capabilities; caching = is_caching g.plugin }) ])
    (failed is_greeting_kind refl refl true p)

pub known_single : (p : List ℕ) → is_single_kind (single_kind p) ≡ true
known_single p = either is_single_kind (good_kind (ok_at p)) (failed_kind (err_at false p)) (good is_single_kind refl (λ s. refl) p) (failed is_single_kind refl refl false p)

pub known_head : (p : List ℕ) → is_head_kind (head_kind p) ≡ true
known_head p = either is_head_kind (good_kind (ok_at p)) (or_else (failed_kind (err_at false p)) (count_kind (column_count_at false p))) (good is_head_kind refl (λ s. refl) p) (either is_head_kind (failed_kind (err_at false p)) (count_kind (column_count_at false p)) (failed is_head_kind refl refl false p) (counted p (column_count_at false p) refl))

pub known_column : (p : List ℕ) → is_column_kind (column_kind p) ≡ true
known_column p = elim (column_at p) as (λ o. is_column_kind (described_kind Column o) ≡ true) [ None ↦ refl | Some c ↦ refl ]

pub known_close : (p : List ℕ) → is_close_kind (columns_end_kind p) ≡ true
known_close p = elim (eof_at p) as (λ o. is_close_kind (done_kind o) ≡ true) [ None ↦ refl | Some c ↦ refl ]

known_end : (d : Bool) (p : List ℕ) → is_row_kind (end_kind d p) ≡ true
known_end true p = elim (end_ok_at p) as (λ o. is_row_kind (ended_kind o) ≡ true) [ None ↦ refl | Some c ↦ refl ]
known_end false p = elim (eof_at p) as (λ o. is_row_kind (eof_kind o) ≡ true) [ None ↦ refl | Some c ↦ refl ]

pub known_row : (f : RowFormat) (d : Bool) (n : ℕ) (cs : List ColumnPacket) (p : List ℕ) → is_row_kind (row_kind f d n cs p) ≡ true
known_row f d n cs p =
    either is_row_kind (end_kind d p) (or_else (failed_kind (err_at false p)) (cells_kind (cells_at f n cs p))) (known_end d p)
    (either is_row_kind (failed_kind (err_at false p)) (cells_kind (cells_at f n cs p)) (failed is_row_kind refl refl false p)
    (elim (cells_at f n cs p) as (λ o. is_row_kind (cells_kind o) ≡ true) [ None ↦ refl | Some c ↦ refl ]))

pub known_prepare : (p : List ℕ) → is_prepare_kind (prepare_kind p) ≡ true
known_prepare p =
    either is_prepare_kind (prepared_kind (prepare_ok_at p)) (failed_kind (err_at false p))
    (elim (prepare_ok_at p) as (λ o. is_prepare_kind (prepared_kind o) ≡ true) [ None ↦ refl | Some head ↦ refl ])
    (failed is_prepare_kind refl refl false p)

pub known_parameter : (p : List ℕ) → is_parameter_kind (parameter_kind p) ≡ true
known_parameter p = elim (column_at p) as (λ o. is_parameter_kind (described_kind Parameter o) ≡ true) [ None ↦ refl | Some c ↦ refl ]

pub known_field : (p : List ℕ) → is_field_kind (field_kind p) ≡ true
known_field p = elim (column_at p) as (λ o. is_field_kind (described_kind Field o) ≡ true) [ None ↦ refl | Some c ↦ refl ]

-- what a kind is that comes in a place
pub is_then : (P : Kind → Bool) (k l : Kind) → P k ≡ true → k ≡ l → P l ≡ true
is_then P k l a e = subst (λ x. P x ≡ true) e a

-- a head's place
pub head_kind_is : (s : Spot) (f : RowFormat) (d : Bool) (n : ℕ) (cs : List ColumnPacket) (p : List ℕ) → is_head s ≡ true → kind_by s f d n cs p ≡ head_kind p
head_kind_is spots.Idle f d n cs p h = cc
head_kind_is (spots.Greeting rules) f d n cs p h = cc
head_kind_is (spots.Authentication stand) f d n cs p h = cc
head_kind_is spots.Single f d n cs p h = cc
head_kind_is spots.Head f d n cs p h = refl
head_kind_is spots.Further f d n cs p h = refl
head_kind_is (spots.Columns left) f d n cs p h = cc
head_kind_is spots.ColumnsEnd f d n cs p h = cc
head_kind_is spots.Rows f d n cs p h = cc
head_kind_is spots.Prepare f d n cs p h = cc
head_kind_is (spots.Parameters left columns) f d n cs p h = cc
head_kind_is (spots.ParametersEnd columns) f d n cs p h = cc
head_kind_is (spots.Fields left) f d n cs p h = cc
head_kind_is spots.FieldsEnd f d n cs p h = cc

pub after_head_is : (s : Spot) (d : Bool) (k : Kind) → is_head s ≡ true → after_head k ≡ spot_after d s k
after_head_is spots.Idle d k h = cc
after_head_is (spots.Greeting rules) d k h = cc
after_head_is (spots.Authentication stand) d k h = cc
after_head_is spots.Single d k h = cc
after_head_is spots.Head d k h = refl
after_head_is spots.Further d k h = refl
after_head_is (spots.Columns left) d k h = cc
after_head_is spots.ColumnsEnd d k h = cc
after_head_is spots.Rows d k h = cc
after_head_is spots.Prepare d k h = cc
after_head_is (spots.Parameters left columns) d k h = cc
after_head_is (spots.ParametersEnd columns) d k h = cc
after_head_is (spots.Fields left) d k h = cc
after_head_is spots.FieldsEnd d k h = cc

more_if : (t : Bool) → (cond t spots.Further spots.Idle ≡ spots.Further) ⊎ (cond t spots.Further spots.Idle ≡ spots.Idle)
more_if true = inl refl
more_if false = inr refl

-- after an OK or an end
pub more_cases : (status : StatusFlags) → (more status ≡ spots.Further) ⊎ (more status ≡ spots.Idle)
more_cases status = more_if (has_more_results status)

-- nothing is known where nothing is awaited
pub idle_bad : (s : Spot) (f : RowFormat) (d : Bool) (n : ℕ) (cs : List ColumnPacket) (p : List ℕ) (k : Kind) → s ≡ spots.Idle → kind_by s f d n cs p ≡ k → k ≡ Bad
idle_bad s f d n cs p k i e = sym (subst (λ s. kind_by s f d n cs p ≡ k) i e)
