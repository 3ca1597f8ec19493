-- What is at a connection's number.
use Rattle.std.specs.Prelude.{ℕ, suc, List, [], ◌∷◌, Option, Some, None, option_map, true, false}
use Rattle.my_value.specs.RowParts.{RowParts}
use Rattle.my_steps.specs.declared.slot.Slot.{Slot}
use Rattle.my_steps.specs.declared.slot.Slot.TheVariants.{Gone, Held, Connecting, There, Gathering, Ended}
use Rattle.my_steps.specs.Handle.{Handle, Absent, Dialing, Joined, at_number}
use Rattle.my_client.specs.declared.tape.Tape.{Tape}
use Rattle.my_client.specs.Conn.{kept_in}
use Rattle.my_client.specs.Kept.{Asked, Kept, nothing_kept}
use Rattle.my_conn.specs.Conn.{ConnSeen}
use Rattle.my_link.specs.Looks.{Looks}
use Rattle.my_link.specs.declared.dialer.DialItem.{DialItem}
use Rattle.my_link.specs.World.{Plans}

-- What a connection's tape keeps. One that ran out of memory has none.
abbrev pub kept_some : Option Tape → Kept
kept_some None = nothing_kept
kept_some (Some t) = kept_in t

abbrev pub kept_of : {L : Type 0} → ConnSeen L → Kept
kept_of c = kept_some c.tape

-- the rows that the open call gathered so far
abbrev pub asked_with : List RowParts → Asked → Asked
asked_with rows a = record { call = a.call; sent_from = a.sent_from; taken_from = a.taken_from; rows = Some rows }

abbrev pub with_rows : List RowParts → Kept → Kept
with_rows rows k = record { sent = k.sent; taken = k.taken; calls = k.calls; pending = option_map (asked_with rows) k.pending }

-- A connection whose dial failed has no tape, and one that couldn't connect isn't there any more. The items that are left for
-- dials are the world's.
abbrev pub handle_with : {L : Type 0} → (L → Looks) → Option (List DialItem) → Slot L → Handle
handle_with look left Gone = Absent
handle_with look left Held = Dialing left
handle_with look left (Connecting c) = Joined true (kept_some c.tape) (look c.link)
handle_with look left (There c) = Joined true (kept_of c) (look c.link)
handle_with look left (Gathering c rows) = Joined true (with_rows rows.items (kept_of c)) (look c.link)
handle_with look left (Ended t l) = Joined false (kept_in t) (look l)

-- by itself a slot tells nothing of them
abbrev pub handle_of : {L : Type 0} → (L → Looks) → Slot L → Handle
handle_of look slot = handle_with look None slot

-- at all numbers from this one on, in a world with these plans
abbrev pub handles_from : {L : Type 0} → (L → Looks) → (ℕ → Option (List DialItem)) → ℕ → List (Slot L) → List Handle
handles_from look left n [] = []
handles_from look left n (s ∷ ss) = handle_with look (left n) s ∷ handles_from look left (suc n) ss

abbrev pub handles_in : {L : Type 0} → (L → Looks) → Plans → List (Slot L) → List Handle
handles_in look plans slots = handles_from look plans.dials 0 slots

abbrev pub handle_at : {L : Type 0} → (L → Looks) → Plans → List (Slot L) → ℕ → Handle
handle_at look plans slots n = at_number (handles_in look plans slots) n

-- a slot with a link, so that its dials are over
abbrev pub HasLink : {L : Type 0} → Slot L → Type 0
HasLink Gone = ⊥
HasLink Held = ⊥
HasLink (Connecting c) = Unit {0}
HasLink (There c) = Unit {0}
HasLink (Gathering c rows) = Unit {0}
HasLink (Ended t l) = Unit {0}

-- what is left of a slot that has a link: what it kept, and that link
abbrev pub Parts : Type 0 → Type 0
Parts L = Kept × L

abbrev pub parts_in : {L : Type 0} → Option (Tape × L) → Option (Parts L)
parts_in None = None
parts_in (Some p) = Some (kept_in p.0, p.1)

abbrev pub parts_of : {L : Type 0} → Slot L → Option (Parts L)
parts_of Gone = None
parts_of Held = None
parts_of (Connecting c) = Some (kept_some c.tape, c.link)
parts_of (There c) = Some (kept_of c, c.link)
parts_of (Gathering c rows) = Some (kept_of c, c.link)
parts_of (Ended t l) = Some (kept_in t, l)
