-- Sets that were tested are read back.
use Rattle.std.proofs.Common.{◌≡◌, ℕ, ◌+◌, ◌≤◌, ◌&&◌, ◌==◌, List, [], ◌∷◌, ◌++◌, length, map, true, nat_lt, nat_le, Option, Some, None, arith, length-append}
use Rattle.std.specs.List.{AllByRecursion, flat_map, list_all}
use Rattle.std.proofs.lemmas.Bool.Decides.{nat_tests}
use Rattle.std.proofs.lemmas.List.Concat.{flat_map-cons}
use Rattle.my_flags.specs.declared.flags.StatusFlags.{StatusFlags}
use Rattle.my_frame.specs.declared.limits.TheConstants.{GREATEST_MAX_ALLOWED_PACKET}
use Rattle.my_frame.specs.Writing.{text_bytes}
use Rattle.my_reply.specs.declared.server.ServerPacket.TheVariants as packets
use Rattle.my_reply.specs.Server.{cell_bytes, server_bytes}
use Rattle.my_value.specs.WrittenRow.{TextsFit}
use Rattle.my_server.specs.declared.script.ServerSet.{ServerSet}
use Rattle.my_server.specs.Answer.{close_payloads, column_payload, end_payload, row_payload, set_payloads, set_status, sets_payloads}
use Rattle.my_server.specs.Faults.{is_sent, is_set}
use Rattle.my_server.proofs.Sendable.{both}
use Rattle.server_laws.proofs.SetHearing.{AreGood, IsGoodSet, IsName, IsRow}

all_front : {X : Type 0} (P : X → Type 0) (xs ys : List X) → AllByRecursion P (xs ++ ys) → AllByRecursion P xs
all_front {X} P [] ys w = tt
all_front {X} P (x ∷ xs) ys w = (w.0, all_front P xs ys w.1)

all_back : {X : Type 0} (P : X → Type 0) (xs ys : List X) → AllByRecursion P (xs ++ ys) → AllByRecursion P ys
all_back {X} P [] ys w = w
all_back {X} P (x ∷ xs) ys w = all_back P xs ys w.1

all_of_map : {X Y : Type 0} (P : Y → Type 0) (Q : X → Type 0) (f : X → Y) (xs : List X) → ((x : X) → P (f x) → Q x) → AllByRecursion P (map f xs) → AllByRecursion Q xs
all_of_map {X} {Y} P Q f [] leads w = tt
all_of_map {X} {Y} P Q f (x ∷ xs) leads w = (leads x w.0, all_of_map P Q f xs leads w.1)

-- shorter than the longest payload, and within the limit
abbrev pub IsWithin : ℕ → List ℕ → Type 0
IsWithin limit p = (length p ≤ GREATEST_MAX_ALLOWED_PACKET) × (length p ≤ limit)

pub all_within : (limit : ℕ) (ps : List (List ℕ)) → list_all is_sent ps ≡ true → AllByRecursion (λ p. length p ≤ limit) ps → AllByRecursion (IsWithin limit) ps
all_within limit [] e w = tt
all_within limit (p ∷ ps) e w =
    let v = both (is_sent p) (list_all is_sent ps) e in
    let sent = v.0 in
    ((grind (arith, nat_tests), w.0), all_within limit ps v.1 w.1)

name_in_column : (name : List ℕ) → length name ≤ length (column_payload name)
unfolding text_bytes
name_in_column name = simp length-append (omega arith)

is_name : (limit : ℕ) (name : List ℕ) → IsWithin limit (column_payload name) → IsName limit name
is_name limit name w = let short = w.0 in (omega (arith, name_in_column name), w.1)

text_in_cell : (text : List ℕ) (cells : List (Option (List ℕ))) → length text + length (flat_map cell_bytes cells) ≤ length (flat_map cell_bytes (Some text ∷ cells))
unfolding text_bytes
text_in_cell text cells = rw (flat_map-cons cell_bytes (Some text) cells) (simp length-append (omega arith))

cells_in_cells : (cell : Option (List ℕ)) (cells : List (Option (List ℕ))) → length (flat_map cell_bytes cells) ≤ length (flat_map cell_bytes (cell ∷ cells))
cells_in_cells cell cells = rw (flat_map-cons cell_bytes cell cells) (simp length-append (omega arith))

texts_fit : (cells : List (Option (List ℕ))) → length (flat_map cell_bytes cells) ≤ GREATEST_MAX_ALLOWED_PACKET → TextsFit cells
texts_fit [] short = tt
texts_fit (None ∷ cells) short = let more = cells_in_cells None cells in texts_fit cells (omega arith)
texts_fit (Some text ∷ cells) short = let more = text_in_cell text cells in (omega arith, texts_fit cells (omega arith))

rows_fit : (limit columns : ℕ) (rows : List (List (Option (List ℕ)))) → list_all (λ row. length row == columns) rows ≡ true → AllByRecursion (IsWithin limit) (map row_payload rows) → AllByRecursion (IsRow limit columns) rows
rows_fit limit columns [] e w = tt
rows_fit limit columns (row ∷ rows) e w =
    let v = both (length row == columns) (list_all (λ row. length row == columns) rows) e in
    let same = v.0 in
    ((grind (arith, nat_tests), texts_fit row w.0.0, w.0.1), rows_fit limit columns rows v.1 w.1)

set_is_good : (limit : ℕ) (status : StatusFlags) (set : ServerSet) → is_set set ≡ true → AllByRecursion (IsWithin limit) (set_payloads true status set) → IsGoodSet limit status set
set_is_good limit status set e w =
    let n = length set.names in
    let names = map column_payload set.names in
    let rows = map row_payload set.rows in
    let count = server_bytes (packets.Count n) in
    let last = end_payload true status in
    let a = both (nat_lt 0 n && nat_le n 65535) (list_all (λ row. length row == n) set.rows) e in
    let b = both (nat_lt 0 n) (nat_le n 65535) a.0 in
    let some = b.0 in
    let few = b.1 in
    let P = IsWithin limit in
    let headed = (count ∷ names) ++ close_payloads true status in
    let ends = all_back P (headed ++ rows) (last ∷ []) w in
    let begun = all_front P (headed ++ rows) (last ∷ []) w in
    let head = all_front P (count ∷ names) (close_payloads true status) (all_front P headed rows begun) in
    record {
      some = grind (arith, nat_tests);
      few = grind (arith, nat_tests);
      count = head.0.1;
      names = all_of_map P (IsName limit) column_payload set.names (is_name limit) head.1;
      rows = rows_fit limit n set.rows a.1 (all_back P headed rows begun);
      ended = ends.0.1;
    }

pub sets_are_good : (limit : ℕ) (sets : List ServerSet) → list_all is_set sets ≡ true → AllByRecursion (IsWithin limit) (sets_payloads true sets) → AreGood limit sets
sets_are_good limit [] e w = tt
sets_are_good limit (set ∷ sets) e w =
    let v = both (is_set set) (list_all is_set sets) e in
    let status = set_status (length sets) in
    let P = IsWithin limit in
    (set_is_good limit status set v.0 (all_front P (set_payloads true status set) (sets_payloads true sets) w), sets_are_good limit sets v.1 (all_back P (set_payloads true status set) (sets_payloads true sets) w))
