-- What a reader of packets returns.
use Rattle.std.specs.Prelude.{◌≡◌, ◌↔◌, ℕ, List, Option, Some, None, Result, Ok, Err, IfOk, MatchResult}
use Rattle.my_frame.specs.declared.read_error.ReadError.{ReadError}
use Rattle.my_frame.specs.declared.read_error.ReadError.TheVariants.{Malformed, NoMemory}

-- malformed means that nothing can be read; out of memory says nothing
abbrev pub Fails : {Y : Type 0} → ReadError → Option Y → Type 0
Fails NoMemory read = Unit {0}
Fails Malformed read = read ≡ None

-- The result, as `view` shows it, is what reading gives, unless memory ran out.
abbrev pub GivesAs : {X Y : Type 0} → (X → Y) → Result X ReadError → Option Y → Type 0
GivesAs view (Ok x) read = read ≡ Some (view x)
GivesAs view (Err e) read = Fails e read

-- The result is what reading gives, unless memory ran out.
abbrev pub Gives : {X : Type 0} → Result X ReadError → Option X → Type 0
Gives (Ok x) read = read ≡ Some x
Gives (Err e) read = Fails e read

-- The result is the record that the payload is, or an error exactly where it is none; a call may also be out of memory.
pub record ReadsExactly {X : Type 0} (Is : X → Type 0) (result : Result X ReadError) : Type 0 where
  pub found : IfOk result Is
  pub only : (x : X) → Is x → MatchResult result (λ y. y ≡ x) (λ e. e ≡ NoMemory)

-- The function finds in each payload exactly the record that the payload is, and no payload is two records.
pub record FindsExactly {X : Type 0} (find : List ℕ → Option X) (Is : List ℕ → X → Type 0) : Type 0 where
  pub exact : (payload : List ℕ) (x : X) → (find payload ≡ Some x) ↔ Is payload x
  pub one : (payload : List ℕ) (x y : X) → Is payload x → Is payload y → x ≡ y

-- What is written of each record that fits is read back.
abbrev pub ReadsBack : {X : Type 0} → (X → Type 0) → (X → List ℕ) → (List ℕ → Option X) → Type 0
ReadsBack {X} Fits write find = (x : X) → Fits x → find (write x) ≡ Some x
