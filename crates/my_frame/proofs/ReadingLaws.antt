-- From what a reader gives to the record that a payload is.
use Rattle.std.proofs.Common.{◌≡◌, ℕ, List, Option, Some, None, Result, Ok, Err, refl}
use Rattle.std.specs.Option.{ok_or}
use Rattle.my_frame.specs.declared.read_error.ReadError.{ReadError}
use Rattle.my_frame.specs.declared.read_error.ReadError.TheVariants.{Malformed, NoMemory}
use Rattle.my_frame.specs.Reading.{FindsExactly, Gives, ReadsExactly}

pub reads_exactly : {X : Type 0} (Is : X → Type 0) (read : Option X) (r : Result X ReadError) → ((x : X) → read ≡ Some x → Is x) → ((x : X) → Is x → read ≡ Some x) → Gives r read → ReadsExactly Is r
reads_exactly Is read (Ok y) found again g = record { found = found y g; only = λ x w. let e = again x w in cc }
reads_exactly Is read (Err Malformed) found again g = record { found = tt; only = λ x w. let e = again x w in absurd cc }
reads_exactly Is read (Err NoMemory) found again g = record { found = tt; only = λ x w. cc }

pub reads_plainly : {X : Type 0} (Is : X → Type 0) (read o : Option X) (r : Result X ReadError) → ((x : X) → read ≡ Some x → Is x) → ((x : X) → Is x → read ≡ Some x) → o ≡ read → r ≡ ok_or o Malformed → ReadsExactly Is r
reads_plainly Is read o r found again e f = rw (f, e) (reads_exactly Is read (ok_or read Malformed) found again (given read))
  where
    given : {X : Type 0} (o : Option X) → Gives (ok_or o Malformed) o
    given None = refl
    given (Some x) = refl

pub one_record : {X : Type 0} (Is : X → Type 0) (read : Option X) → ((x : X) → Is x → read ≡ Some x) → (a b : X) → Is a → Is b → a ≡ b
one_record Is read again a b u v = let e = again a u in let f = again b v in cc

pub finds_exactly : {X : Type 0} (find : List ℕ → Option X) (Is : List ℕ → X → Type 0) → ((payload : List ℕ) (x : X) → find payload ≡ Some x → Is payload x) → ((payload : List ℕ) (x : X) → Is payload x → find payload ≡ Some x) → FindsExactly find Is
finds_exactly find Is found again = record {
  exact = λ payload x. (found payload x, again payload x);
  one = λ payload. one_record (Is payload) (find payload) (again payload);
}
