-- Where a greeting and a request of a chain come: their answers are awaited, and then an end of the chain is.
use Rattle.std.proofs.Common.{◌≡◌, ℕ, List, Bool, true, false, Some, refl}
use Rattle.my_reply.specs.declared.column.Column.{Column}
use Rattle.my_auth.specs.declared.chain.AuthAsk.{AuthAsk}
use Rattle.my_grammar.proofs.Growth.{is_chain_kind, known_chain}
use Rattle.my_grammar.proofs.Growth.Known.{is_greeting_kind, is_single_kind, is_head_kind, is_column_kind, is_close_kind, is_row_kind, is_prepare_kind, is_parameter_kind, is_field_kind, is_then, known_greeting, known_single, known_head, known_column, known_close, known_row, known_prepare, known_parameter, known_field}
use Rattle.my_grammar.specs.declared.spot.Kind.{Kind}
use Rattle.my_grammar.specs.declared.spot.Kind.TheVariants as kinds
use Rattle.my_grammar.specs.declared.spot.Offer.{Offer}
use Rattle.my_grammar.specs.declared.spot.RowFormat.{RowFormat}
use Rattle.my_grammar.specs.declared.spot.Spot.{Spot}
use Rattle.my_grammar.specs.declared.spot.Spot.TheVariants as spots
use Rattle.my_grammar.specs.Contexts.{spot_after}
use Rattle.my_grammar.specs.Growth.{is_calm}
use Rattle.my_grammar.specs.Kinds.{auth_kind, greeting_kind, single_kind, head_kind, column_kind, columns_end_kind, row_kind, prepare_kind, parameter_kind, field_kind, kind_by}
use Rattle.my_reading.specs.Endings.{awaits_head}

-- a kind that a place never has
never : (P : Kind → Bool) (k l : Kind) → P k ≡ true → k ≡ l → P l ≡ false → ⊥
never P k l a e f = let no : P l ≡ true = is_then P k l a e in cc

greets_await : (s : Spot) (rows : RowFormat) (d : Bool) (n : ℕ) (cs : List Column) (q : List ℕ) (offer : Offer) → kind_by s rows d n cs q ≡ kinds.Greets offer → awaits_head (spot_after d s (kinds.Greets offer)) ≡ false → ⊥
greets_await spots.Idle rows d n cs q offer e none = cc
greets_await (spots.Greeting rules) rows d n cs q offer e none = cc
greets_await (spots.Authentication stand) rows d n cs q offer e none = never is_chain_kind (auth_kind stand q) (kinds.Greets offer) (known_chain (Some stand) q) e refl
greets_await spots.Single rows d n cs q offer e none = never is_single_kind (single_kind q) (kinds.Greets offer) (known_single q) e refl
greets_await spots.Head rows d n cs q offer e none = never is_head_kind (head_kind q) (kinds.Greets offer) (known_head q) e refl
greets_await spots.Further rows d n cs q offer e none = never is_head_kind (head_kind q) (kinds.Greets offer) (known_head q) e refl
greets_await (spots.Columns left) rows d n cs q offer e none = never is_column_kind (column_kind q) (kinds.Greets offer) (known_column q) e refl
greets_await spots.ColumnsEnd rows d n cs q offer e none = never is_close_kind (columns_end_kind q) (kinds.Greets offer) (known_close q) e refl
greets_await spots.Rows rows d n cs q offer e none = never is_row_kind (row_kind rows d n cs q) (kinds.Greets offer) (known_row rows d n cs q) e refl
greets_await spots.Prepare rows d n cs q offer e none = never is_prepare_kind (prepare_kind q) (kinds.Greets offer) (known_prepare q) e refl
greets_await (spots.Parameters left fields) rows d n cs q offer e none = never is_parameter_kind (parameter_kind q) (kinds.Greets offer) (known_parameter q) e refl
greets_await (spots.ParametersEnd fields) rows d n cs q offer e none = never is_close_kind (columns_end_kind q) (kinds.Greets offer) (known_close q) e refl
greets_await (spots.Fields left) rows d n cs q offer e none = never is_field_kind (field_kind q) (kinds.Greets offer) (known_field q) e refl
greets_await spots.FieldsEnd rows d n cs q offer e none = never is_close_kind (columns_end_kind q) (kinds.Greets offer) (known_close q) e refl

asks_await : (s : Spot) (rows : RowFormat) (d : Bool) (n : ℕ) (cs : List Column) (q : List ℕ) (ask : AuthAsk) → kind_by s rows d n cs q ≡ kinds.Asks ask → awaits_head (spot_after d s (kinds.Asks ask)) ≡ false → ⊥
asks_await spots.Idle rows d n cs q ask e none = cc
asks_await (spots.Greeting rules) rows d n cs q ask e none = never is_greeting_kind (greeting_kind q) (kinds.Asks ask) (known_greeting q) e refl
asks_await (spots.Authentication stand) rows d n cs q ask e none = cc
asks_await spots.Single rows d n cs q ask e none = never is_single_kind (single_kind q) (kinds.Asks ask) (known_single q) e refl
asks_await spots.Head rows d n cs q ask e none = never is_head_kind (head_kind q) (kinds.Asks ask) (known_head q) e refl
asks_await spots.Further rows d n cs q ask e none = never is_head_kind (head_kind q) (kinds.Asks ask) (known_head q) e refl
asks_await (spots.Columns left) rows d n cs q ask e none = never is_column_kind (column_kind q) (kinds.Asks ask) (known_column q) e refl
asks_await spots.ColumnsEnd rows d n cs q ask e none = never is_close_kind (columns_end_kind q) (kinds.Asks ask) (known_close q) e refl
asks_await spots.Rows rows d n cs q ask e none = never is_row_kind (row_kind rows d n cs q) (kinds.Asks ask) (known_row rows d n cs q) e refl
asks_await spots.Prepare rows d n cs q ask e none = never is_prepare_kind (prepare_kind q) (kinds.Asks ask) (known_prepare q) e refl
asks_await (spots.Parameters left fields) rows d n cs q ask e none = never is_parameter_kind (parameter_kind q) (kinds.Asks ask) (known_parameter q) e refl
asks_await (spots.ParametersEnd fields) rows d n cs q ask e none = never is_close_kind (columns_end_kind q) (kinds.Asks ask) (known_close q) e refl
asks_await (spots.Fields left) rows d n cs q ask e none = never is_field_kind (field_kind q) (kinds.Asks ask) (known_field q) e refl
asks_await spots.FieldsEnd rows d n cs q ask e none = never is_close_kind (columns_end_kind q) (kinds.Asks ask) (known_close q) e refl

pub not_calm_awaits : (k : Kind) (s : Spot) (rows : RowFormat) (d : Bool) (n : ℕ) (cs : List Column) (q : List ℕ) → kind_by s rows d n cs q ≡ k → is_calm k ≡ false → awaits_head (spot_after d s k) ≡ false → ⊥
not_calm_awaits (kinds.Greets offer) s rows d n cs q e loud none = greets_await s rows d n cs q offer e none
not_calm_awaits (kinds.Asks ask) s rows d n cs q e loud none = asks_await s rows d n cs q ask e none
not_calm_awaits _ s rows d n cs q e loud none = cc
