-- What the function of specs/Front.antt means for the chunks of payloads and for faults.
use Rattle.std.specs.Prelude.{◌≡◌, ℕ, ◌^◌, ◌<◌, ◌≤◌, List, ◌++◌, length, slice_index}
use Rattle.my_frame.specs.Chunks.{chunks, number_after_payload}
use Rattle.my_frame.specs.Faults.{Faulty, HasNoPayload, HasNoFault}
use Rattle.my_frame.specs.Front.{Front, Waiting, Broken, Whole}

-- The list holds bytes.
pub record AreBytes (bytes : List ℕ) : Type 0 where
  pub below : (k : ℕ) → slice_index bytes k < 2 ^ 8

-- The bytes are the chunks of the payload and the rest, and the payload has at most `limit` bytes.
pub record IsWhole (n limit : ℕ) (bytes payload rest : List ℕ) (next : ℕ) : Type 0 where
  pub spelled : bytes ≡ chunks payload n ++ rest
  pub within : length payload ≤ limit
  pub next_is : next ≡ number_after_payload payload n

-- what it means that the bytes begin with this
abbrev pub FrontMeans : ℕ → ℕ → List ℕ → Front → Type 0
FrontMeans n limit bytes Waiting = HasNoPayload bytes n × HasNoFault bytes n limit
FrontMeans n limit bytes (Broken fault) = Faulty bytes n 0 limit fault
FrontMeans n limit bytes (Whole payload rest next) = IsWhole n limit bytes payload rest next

-- what the bytes begin with once more bytes came
abbrev pub FrontGrows : List ℕ → Front → Front → Type 0
FrontGrows more Waiting later = Unit {0}
FrontGrows more (Broken fault) later = later ≡ Broken fault
FrontGrows more (Whole payload rest next) later = later ≡ Whole payload (rest ++ more) next
