-- What the lines of a world give each link, to be read, for its writes and for its dials, and what they do to the time and the
-- random words.
use Rattle.std.specs.Prelude.{ℕ, ◌+◌, ◌-◌, ◌^◌, ◌/◌, ◌%◌, ◌==◌, min, List, [], ◌∷◌, ◌++◌, length, Option, option_map, if◌then◌else◌}
use Rattle.my_link.specs.declared.line.WorldLine.{WorldLine}
use Rattle.my_link.specs.declared.line.WorldLine.TheVariants as lines
use Rattle.my_link.specs.declared.link.ReadItem.{ReadItem}
use Rattle.my_link.specs.declared.link.ReadItem.TheVariants as items
use Rattle.my_link.specs.declared.link.WriteItem.{WriteItem}
use Rattle.my_link.specs.declared.link.WriteItem.TheVariants as puts
use Rattle.my_link.specs.declared.dialer.DialItem.{DialItem}
use Rattle.my_link.specs.declared.dialer.DialItem.TheVariants as dials
use Rattle.my_link.specs.Link.{accept_back}
use Rattle.my_link.specs.Items.{LinkItems}
use Rattle.my_link.specs.World.{Plans, Chance}

-- a packet's header: the payload's length in three bytes, the lowest first, and the packet's number
-- MySQL internals, "MySQL Packets"
abbrev pub header_of : ℕ → ℕ → List ℕ
header_of len number = len % 256 ∷ len / 256 % 256 ∷ len / 65536 % 256 ∷ number ∷ []

-- a line of no link gives link 0 nothing
abbrev pub link_of : WorldLine → ℕ
link_of (lines.Packet link number payload) = link
link_of (lines.Bytes link bytes) = link
link_of (lines.Turn link) = link
link_of (lines.Wait link) = link
link_of (lines.Fail link) = link
link_of (lines.End link) = link
link_of (lines.Drip link number payload) = link
link_of (lines.Accept link n) = link
link_of (lines.WriteWait link) = link
link_of (lines.WriteFail link) = link
link_of (lines.DialWait link) = link
link_of (lines.DialFail link) = link
link_of (lines.Advance by) = 0
link_of (lines.Random word) = 0

-- no item where no byte is to be read
abbrev pub bytes_item : List ℕ → List ReadItem
bytes_item [] = []
bytes_item (b ∷ bytes) = items.Bytes (b ∷ bytes) ∷ []

-- a packet's bytes, the header's first
abbrev pub packet_of : ℕ → List ℕ → List ℕ
packet_of number payload = header_of (length payload) number ++ payload

-- each byte by itself, with a hold after it
abbrev pub dripped : List ℕ → List ReadItem
dripped [] = []
dripped (b ∷ bytes) = items.Bytes (b ∷ []) ∷ items.Wait ∷ dripped bytes

-- what a line gives to be read
abbrev pub items_of : WorldLine → List ReadItem
items_of (lines.Packet link number payload) = items.Bytes (packet_of number payload) ∷ []
items_of (lines.Bytes link bytes) = bytes_item bytes
items_of (lines.Turn link) = items.Turn ∷ []
items_of (lines.Wait link) = items.Wait ∷ []
items_of (lines.Fail link) = items.Fail ∷ []
items_of (lines.End link) = items.End ∷ []
items_of (lines.Drip link number payload) = dripped (packet_of number payload)
items_of (lines.Accept link n) = []
items_of (lines.WriteWait link) = []
items_of (lines.WriteFail link) = []
items_of (lines.DialWait link) = []
items_of (lines.DialFail link) = []
items_of (lines.Advance by) = []
items_of (lines.Random word) = []

-- what a line gives for writes; no byte to be taken gives nothing
abbrev pub writes_of : WorldLine → List WriteItem
writes_of (lines.Packet link number payload) = []
writes_of (lines.Bytes link bytes) = []
writes_of (lines.Turn link) = []
writes_of (lines.Wait link) = []
writes_of (lines.Fail link) = []
writes_of (lines.End link) = []
writes_of (lines.Drip link number payload) = []
writes_of (lines.Accept link n) = accept_back n []
writes_of (lines.WriteWait link) = puts.Wait ∷ []
writes_of (lines.WriteFail link) = puts.Fail ∷ []
writes_of (lines.DialWait link) = []
writes_of (lines.DialFail link) = []
writes_of (lines.Advance by) = []
writes_of (lines.Random word) = []

-- what a line gives for dials
abbrev pub dials_of : WorldLine → List DialItem
dials_of (lines.DialWait link) = dials.Wait ∷ []
dials_of (lines.DialFail link) = dials.Fail ∷ []
dials_of _ = []

-- what a line gives a link, once a dial gave it
abbrev pub given_by : WorldLine → LinkItems
given_by line = record { reads = items_of line; writes = writes_of line }

-- of what lines give of one kind (to be read, for writes, for dials): what a line gives the link of number n
abbrev pub given_to : {I : Type 0} → (WorldLine → List I) → ℕ → WorldLine → List I
given_to gives n line = if link_of line == n then gives line else []

-- what all lines give it
abbrev pub all_given : {I : Type 0} → (WorldLine → List I) → ℕ → List WorldLine → List I
all_given gives n [] = []
all_given gives n (line ∷ rest) = given_to gives n line ++ all_given gives n rest

-- its plan, with a line more
abbrev pub with_line : {I : Type 0} → (WorldLine → List I) → ℕ → WorldLine → Option (List I) → Option (List I)
with_line gives n line plan = option_map (λ is. is ++ given_to gives n line) plan

-- its plan, with these lines more
abbrev pub with_lines : {I : Type 0} → (WorldLine → List I) → ℕ → List WorldLine → Option (List I) → Option (List I)
with_lines gives n lines plan = option_map (λ is. is ++ all_given gives n lines) plan

-- each link's plan, with a line more
abbrev pub plans_on : WorldLine → Plans → Plans
plans_on line plans = record {
  reads = λ n. with_line items_of n line (plans.reads n);
  writes = λ n. with_line writes_of n line (plans.writes n);
  dials = λ n. with_line dials_of n line (plans.dials n);
}

-- with these lines more
abbrev pub plans_after : List WorldLine → Plans → Plans
plans_after lines plans = record {
  reads = λ n. with_lines items_of n lines (plans.reads n);
  writes = λ n. with_lines writes_of n lines (plans.writes n);
  dials = λ n. with_lines dials_of n lines (plans.dials n);
}

-- the moment that comes this many milliseconds later, at most the last one
abbrev pub moment_after : ℕ → ℕ → ℕ
moment_after by moment = min (moment + by) (2 ^ 64 - 1)

-- what a line does to the moment and to the random words
abbrev pub chance_on : WorldLine → Chance → Chance
chance_on (lines.Advance by) c = record { moment = option_map (moment_after by) c.moment; randoms = c.randoms }
chance_on (lines.Random word) c = record { moment = c.moment; randoms = option_map (λ words. words ++ word ∷ []) c.randoms }
chance_on _ c = c

-- what these lines do, in order
abbrev pub chance_after : List WorldLine → Chance → Chance
chance_after [] c = c
chance_after (line ∷ rest) c = chance_after rest (chance_on line c)
