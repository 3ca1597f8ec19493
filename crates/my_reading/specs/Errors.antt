-- Errors of calls: which end a connection, and what they say.
use Rattle.std.specs.Prelude.{ℕ, List, Bool, true, false}
use Rattle.std.specs.Str.Lossy.{utf8_lossy}
use Rattle.my_frame.specs.declared.fault.CodecFault.{CodecFault}
use Rattle.my_reply.specs.declared.err.ErrPacket.{ErrPacket}
use Rattle.my_auth.specs.declared.chain.AuthMove.{AuthMove}
use Rattle.my_auth.specs.declared.chain.AuthMove.TheVariants.{Refuse}
use Rattle.my_auth.specs.declared.chain.AuthRefusal.{AuthRefusal}
use Rattle.my_auth.specs.declared.chain.AuthRefusal.TheVariants as refusals
use Rattle.my_auth.specs.Chain.{move_at, plugin_in}
use Rattle.my_grammar.specs.declared.spot.Spot.{Spot}
use Rattle.my_grammar.specs.declared.spot.Spot.TheVariants.{Authentication}
use Rattle.my_reading.specs.declared.error.Error.{Error}
use Rattle.my_reading.specs.declared.error.Error.TheVariants.{Driver, Io, Server}
use Rattle.my_reading.specs.declared.error.DriverError.TheVariants.{ConnectionClosed, MixedParams, UnexpectedPacket, UnknownAuthPlugin, CleartextPluginDisabled, MysqlOldPasswordDisabled, FullAuthRefused}
use Rattle.my_reading.specs.declared.error.IoKind.{IoKind}
use Rattle.my_reading.specs.declared.error.IoKind.TheVariants.{UnexpectedEof, InvalidData}
use Rattle.my_reading.specs.declared.error.IoError.TheVariants as ios
use Rattle.my_reading.specs.declared.error.ServerError.{ServerError}

abbrev pub is_fatal : Error → Bool
is_fatal (Server e) = false
is_fatal _ = true

abbrev pub io_error : IoKind → ℕ → Error
io_error kind place = Io (ios.Io (record { kind = kind; place = place }))

-- a payload that fits no case, after place others
abbrev pub invalid_data : ℕ → Error
invalid_data place = io_error InvalidData place

-- the link ended where a packet was awaited
abbrev pub unexpected_eof : ℕ → Error
unexpected_eof place = io_error UnexpectedEof place

abbrev pub codec_error : CodecFault → Error
codec_error fault = Io (ios.Codec fault)

abbrev pub connection_closed : Error
connection_closed = Driver ConnectionClosed

-- a text has named parameters and marks
abbrev pub mixed_params : Error
mixed_params = Driver MixedParams

-- why a client goes on no more with the chain in which it shows who it is
abbrev pub refusal_error : AuthRefusal → List ℕ → ℕ → Error
refusal_error refusals.UnknownAuthPlugin payload place = Driver (UnknownAuthPlugin (plugin_in payload))
refusal_error refusals.CleartextPluginDisabled payload place = Driver CleartextPluginDisabled
refusal_error refusals.MysqlOldPasswordDisabled payload place = Driver MysqlOldPasswordDisabled
refusal_error refusals.FullAuthRefused payload place = Driver FullAuthRefused
refusal_error refusals.UnexpectedPacket payload place = Driver (UnexpectedPacket payload)
refusal_error refusals.Malformed payload place = invalid_data place

abbrev pub move_error : AuthMove → List ℕ → ℕ → Error
move_error (Refuse refusal) payload place = refusal_error refusal payload place
move_error m payload place = invalid_data place

-- a payload that fits no case where this is awaited, after place others
abbrev pub unfit_error : Spot → List ℕ → ℕ → Error
unfit_error (Authentication stand) payload place = move_error (move_at stand payload) payload place
unfit_error s payload place = invalid_data place

-- what an ERR says
abbrev pub server_error : ErrPacket → ServerError
server_error e = record { code = e.code; state = utf8_lossy e.state; message = e.message }
