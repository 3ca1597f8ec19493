-- The settings of a connection: how long a payload may be, and how long the connection may rest.
-- MySQL reference manual, "Server System Variables": max_allowed_packet, in bytes, and wait_timeout, in seconds.
use Rattle.std.specs.Prelude.{ℕ, max, min, List, slice_get, unwrap_or, Option, Some, None, Bool, true, false, if◌then◌else◌}
use Rattle.my_frame.specs.declared.limits.TheConstants.{DEFAULT_MAX_ALLOWED_PACKET, GREATEST_MAX_ALLOWED_PACKET, LEAST_MAX_ALLOWED_PACKET}
use Rattle.my_frame.specs.Numeral.{whole_number}
use Rattle.my_value.specs.declared.value.Value.{Value}
use Rattle.my_value.specs.declared.value.Value.TheVariants.{Bytes}
use Rattle.my_value.specs.RowParts.{RowParts}
use Rattle.my_grammar.specs.declared.login.Login.{Login}
use Rattle.my_reading.specs.declared.settings.Stage.{Stage}
use Rattle.my_reading.specs.declared.settings.Stage.TheVariants.{Unasked, Asked, Known}
use Rattle.my_reading.specs.declared.settings.Settings.{Settings}
use Rattle.my_reading.specs.declared.settings.TheConstants.{DEFAULT_WAIT}

-- before the login is settled; what will hold is what the options set
abbrev pub first_settings : Login → Settings
first_settings login = record {
  stage = Unasked;
  limit_option = login.packet_limit;
  wait_option = login.wait_timeout;
  limit = DEFAULT_MAX_ALLOWED_PACKET;
  next_limit = unwrap_or login.packet_limit DEFAULT_MAX_ALLOWED_PACKET;
  wait_timeout = unwrap_or login.wait_timeout DEFAULT_WAIT;
}

-- the next limit holds from now on
abbrev pub in_force : Settings → Settings
in_force s = record { stage = Known; limit_option = s.limit_option; wait_option = s.wait_option; limit = s.next_limit; next_limit = s.next_limit; wait_timeout = s.wait_timeout }

-- the server is asked
abbrev pub awaited : Settings → Settings
awaited s = record { stage = Asked; limit_option = s.limit_option; wait_option = s.wait_option; limit = s.limit; next_limit = s.next_limit; wait_timeout = s.wait_timeout }

-- the login is settled: where both options are set, nothing is asked
abbrev pub settled : Option ℕ → Option ℕ → Settings → Settings
settled (Some limit) (Some wait) s = in_force s
settled (Some limit) None s = awaited s
settled None wait s = awaited s

-- the number that a cell holds; one that is missing or NULL holds none
abbrev pub number_in : Option Value → Option ℕ
number_in (Some (Bytes text)) = whole_number 64 text
number_in _ = None

-- a server's max_allowed_packet is taken within the bounds of the option
abbrev pub bounded : ℕ → ℕ
bounded n = min (max n LEAST_MAX_ALLOWED_PACKET) GREATEST_MAX_ALLOWED_PACKET

-- the limit is in the row's first cell, where it was asked for
abbrev pub limit_in : Option ℕ → List Value → ℕ
limit_in (Some limit) cells = limit
limit_in None cells = bounded (unwrap_or (number_in (slice_get cells 0)) DEFAULT_MAX_ALLOWED_PACKET)

-- the timeout is in the cell after the limit's, or in the first one
abbrev pub wait_place : Option ℕ → ℕ
wait_place (Some limit) = 0
wait_place None = 1

abbrev pub wait_in : Option ℕ → Option ℕ → List Value → ℕ
wait_in limit (Some wait) cells = wait
wait_in limit None cells = unwrap_or (number_in (slice_get cells (wait_place limit))) DEFAULT_WAIT

-- what a row of the answer says will hold; a later row overrides it
abbrev pub told : List Value → Settings → Settings
told cells s = record {
  stage = s.stage;
  limit_option = s.limit_option;
  wait_option = s.wait_option;
  limit = s.limit;
  next_limit = limit_in s.limit_option cells;
  wait_timeout = wait_in s.limit_option s.wait_option cells;
}

-- an OK settles the login; while the server was asked, it is the first set, which has no row
abbrev pub good_settings : Stage → Settings → Settings
good_settings Unasked s = settled s.limit_option s.wait_option s
good_settings Asked s = in_force s
good_settings Known s = s

-- the end of the first set
abbrev pub end_settings : Stage → Settings → Settings
end_settings Unasked s = s
end_settings Asked s = in_force s
end_settings Known s = s

-- a row counts while the first set is read
abbrev pub awaits_row : Stage → Bool
awaits_row Unasked = false
awaits_row Asked = true
awaits_row Known = false

abbrev pub told_by : Option RowParts → Settings → Settings
told_by None s = s
told_by (Some row) s = told row.cells s

abbrev pub row_settings : Option RowParts → Settings → Settings
row_settings row s = if awaits_row s.stage then told_by row s else s
