-- Errors as text.
use Rattle.std.specs.Prelude.{ℕ, List, ◌∷◌, ◌++◌, codes}
use Rattle.std.specs.Fmt.{decimal}
use Rattle.my_frame.specs.declared.fault.CodecFault.{CodecFault}
use Rattle.my_frame.specs.declared.fault.CodecFault.TheVariants.{OutOfOrder, TooLarge}
use Rattle.my_params.specs.declared.params.ParamsError.{ParamsError}
use Rattle.my_params.specs.declared.params.ParamsError.TheVariants as params
use Rattle.my_reading.specs.declared.error.DriverError.{DriverError}
use Rattle.my_reading.specs.declared.error.DriverError.TheVariants as drivers
use Rattle.my_reading.specs.declared.error.IoKind.{IoKind}
use Rattle.my_reading.specs.declared.error.IoKind.TheVariants as kinds
use Rattle.my_reading.specs.declared.error.IoError.{IoError}
use Rattle.my_reading.specs.declared.error.IoError.TheVariants as ios
use Rattle.my_reading.specs.declared.error.ServerError.{ServerError}
use Rattle.my_reading.specs.declared.error.Error.{Error}
use Rattle.my_reading.specs.declared.error.Error.TheVariants as errors
use Rattle.my_opts_parts.specs.declared.error.UrlError.{UrlError}
use Rattle.my_opts_parts.specs.declared.error.UrlError.TheVariants as urls
use Rattle.my_script.specs.TextParts.{marked, bytes_text}

-- a word and two numbers
abbrev pub two_text : List ℕ → ℕ → ℕ → List ℕ
two_text word first second = word ++ marked 32 first ++ marked 32 second

-- a word and a text; a word and two of them
abbrev pub one_text : List ℕ → List ℕ → List ℕ
one_text word text = word ++ (32 ∷ bytes_text text)

abbrev pub both_text : List ℕ → List ℕ → List ℕ → List ℕ
both_text word first second = word ++ (32 ∷ bytes_text first) ++ (32 ∷ bytes_text second)

-- the first name without a value
abbrev pub params_text : ParamsError → List ℕ
params_text (params.Missing name) = one_text (codes "Driver Params Missing") name
params_text params.Kind = codes "Driver Params Kind"
params_text params.NoMemory = codes "Driver Params NoMemory"

-- of a full pool how many requests wait, and how many may; of a mismatch how many values the statement takes, and how many there were
abbrev pub driver_text : DriverError → List ℕ
driver_text drivers.ConnectionClosed = codes "Driver ConnectionClosed"
driver_text drivers.MixedParams = codes "Driver MixedParams"
driver_text drivers.NestedTransaction = codes "Driver NestedTransaction"
driver_text drivers.PoolDisconnected = codes "Driver PoolDisconnected"
driver_text (drivers.PoolFull waiting limit) = two_text (codes "Driver PoolFull") waiting limit
driver_text drivers.ReadOnlyTransNotSupported = codes "Driver ReadOnlyTransNotSupported"
driver_text (drivers.Params e) = params_text e
driver_text (drivers.StmtParamsMismatch required supplied) = two_text (codes "Driver StmtParamsMismatch") required supplied
driver_text (drivers.StmtParamsNumberExceedsLimit supplied) = codes "Driver StmtParamsNumberExceedsLimit" ++ marked 32 supplied
driver_text drivers.TooLong = codes "Driver TooLong"
driver_text (drivers.UnexpectedPacket payload) = one_text (codes "Driver UnexpectedPacket") payload
driver_text (drivers.UnknownAuthPlugin name) = one_text (codes "Driver UnknownAuthPlugin") name
driver_text drivers.CleartextPluginDisabled = codes "Driver CleartextPluginDisabled"
driver_text drivers.MysqlOldPasswordDisabled = codes "Driver MysqlOldPasswordDisabled"
driver_text drivers.FullAuthRefused = codes "Driver FullAuthRefused"
driver_text drivers.CantParseServerVersion = codes "Driver CantParseServerVersion"
driver_text drivers.PacketOutOfOrder = codes "Driver PacketOutOfOrder"
driver_text drivers.PacketTooLarge = codes "Driver PacketTooLarge"
driver_text drivers.BadCompressedPacketHeader = codes "Driver BadCompressedPacketHeader"
driver_text drivers.NoKeyFound = codes "Driver NoKeyFound"
driver_text drivers.NamedPipesDisabled = codes "Driver NamedPipesDisabled"
driver_text drivers.InvalidParsecSalt = codes "Driver InvalidParsecSalt"
driver_text drivers.NoClientSslFlagFromServer = codes "Driver NoClientSslFlagFromServer"

-- a fault of the way; where the place matters, the number of payloads that were read before
abbrev pub fault_text : IoKind → ℕ → List ℕ
fault_text kinds.Link place = codes "Io Link"
fault_text kinds.Dial place = codes "Io Dial"
fault_text kinds.UnexpectedEof place = codes "Io UnexpectedEof" ++ marked 32 place
fault_text kinds.InvalidData place = codes "Io InvalidData" ++ marked 32 place

-- the expected number and the one that came; the length and the limit
abbrev pub codec_text : CodecFault → List ℕ
codec_text (OutOfOrder expected found) = two_text (codes "Io Codec OutOfOrder") expected found
codec_text (TooLarge len limit) = two_text (codes "Io Codec TooLarge") len limit

abbrev pub io_text : IoError → List ℕ
io_text (ios.Io fault) = fault_text fault.kind fault.place
io_text (ios.Codec fault) = codec_text fault

-- the code, the state and the message of a server's error
unfoldable pub server_text : ServerError → List ℕ
server_text e = codes "Server " ++ decimal e.code ++ (32 ∷ e.state) ++ (32 ∷ bytes_text e.message)

abbrev pub url_text : UrlError → List ℕ
url_text (urls.FeatureRequired feature param) = both_text (codes "Url FeatureRequired") feature param
url_text urls.Invalid = codes "Url Invalid"
url_text (urls.InvalidParamValue param value) = both_text (codes "Url InvalidParamValue") param value
url_text (urls.InvalidPoolConstraints min max) = two_text (codes "Url InvalidPoolConstraints") min max
url_text urls.Parse = codes "Url Parse"
url_text (urls.UnknownParameter param) = one_text (codes "Url UnknownParameter") param
url_text (urls.UnsupportedScheme scheme) = one_text (codes "Url UnsupportedScheme") scheme

abbrev pub error_text : Error → List ℕ
error_text (errors.Driver e) = driver_text e
error_text (errors.Io e) = io_text e
error_text (errors.Server e) = server_text e
error_text (errors.Url e) = url_text e
error_text (errors.Other e) = one_text (codes "Other") e.text
error_text errors.NoMemory = codes "NoMemory"
