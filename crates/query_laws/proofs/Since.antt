-- What holds of the place where a connection stands, call after call.
use Rattle.std.proofs.Common.{◌≡◌, ◌⊎◌, inl, inr, ℕ, List, [], ◌∷◌, ◌++◌, Bool, true, false, None, Result, Ok, Err, refl, sym, ap, ◌∙◌, subst}
use Rattle.std.proofs.lemmas.List.{append_assoc}
use Rattle.my_frame.specs.FrontLaws.{AreBytes}
use Rattle.my_grammar.specs.declared.login.Login.{Login}
use Rattle.my_link.specs.Looks.{Looks}
use Rattle.my_value.specs.RowParts.{RowParts}
use Rattle.my_reading.specs.declared.answer.Answer.{Answer}
use Rattle.my_reading.specs.declared.answer.Answer.TheVariants as answers
use Rattle.my_reading.specs.declared.call.Call.{Call}
use Rattle.my_reading.specs.declared.call.CallKind.{CallKind}
use Rattle.my_reading.specs.declared.call.CallKind.TheVariants as kinds
use Rattle.my_reading.specs.declared.error.Error.{Error}
use Rattle.my_reading.specs.Calls.{is_connect, is_unrefused, kind_of}
use Rattle.my_reading.specs.Errors.{connection_closed}
use Rattle.my_reading.specs.Course.{Returns, course, halt}
use Rattle.my_reading.specs.Endings.{IsTape}
use Rattle.my_reading.specs.Place.{Place, with_bytes}
use Rattle.my_reading.specs.Told.{Told, ToldEnd, ToldNone, ToldReady, ToldRow, told}
use Rattle.my_client.specs.Kept.{Kept}
use Rattle.my_client.specs.Reads.{place_kept, tape_kept}
use Rattle.my_conn.specs.Answers.{next_of}
use Rattle.my_conn.specs.Conn.{ConnSeen}
use Rattle.my_conn.specs.Drives.{DriveIs, WaitIs, lost_result, waited_by}
use Rattle.my_conn.specs.declared.drive.NextAnswer.TheVariants.{Row, SetEnd, NoSet}
use Rattle.my_session.specs.Fits.{may_be, may_lack_sets, prepares, reads, resets}
use Rattle.my_client.specs.StandsFor.{StandsFor}
use Rattle.query_laws.specs.Stood.{Did}
use Rattle.query_laws.proofs.Driving.{Stepped, stepped}

-- since it was as it was, this holds of the place where it stands
pub record Goes {L : Type 0} (P : Place → Type 0) (login : Login) (k : Kept) (new : ConnSeen L) : Type 0 where
  pub end : Kept
  pub stands : StandsFor login new.seen new.tape new.pending end
  pub bytes : List ℕ
  pub taken : end.taken ≡ k.taken ++ bytes
  pub tape : IsTape login (tape_kept k) → IsTape login (tape_kept end)
  pub at : P (place_kept login end)

pub record Went {L : Type 0} (P : Login → Place → Type 0) (old new : ConnSeen L) : Type 0 where
  pub was : old.lost ≡ false
  pub is : new.lost ≡ false
  pub pending : new.pending ≡ None
  pub each : (login : Login) (k : Kept) → StandsFor login old.seen old.tape old.pending k → Goes (P login) login k new

module _ {L : Type 0} (call : Call) (answer : Answer) (P R : Login → Place → Type 0) where
  pub first_step : (old new : ConnSeen L) → Stepped call answer old new → ((login : Login) (p q : Place) → course login call p ≡ halt q (Returns (told answer)) → R login q) → Went R old new
  first_step old new s so = record {
    was = s.was;
    is = s.is;
    pending = s.pending;
    each = λ login k w.
        let e = s.each login k w in
        record {
          end = e.end;
          stands = e.stands;
          bytes = e.came.come;
          taken = e.came.taken_is;
          tape = e.tape;
          at = so login (with_bytes e.came.sent e.came.taken (place_kept login k)) (place_kept login e.end) e.came.course_is;
        };
  }

  pub then_step : (old mid new : ConnSeen L) → Went P old mid → Stepped call answer mid new
      → ((login : Login) (p q : Place) (sent taken : List ℕ) → P login p → course login call (with_bytes sent taken p) ≡ halt q (Returns (told answer)) → R login q) → Went R old new
  then_step old mid new a s so = record {
    was = a.was;
    is = s.is;
    pending = s.pending;
    each = λ login k w.
        let e = a.each login k w in
        let f = s.each login e.end e.stands in
        record {
          end = f.end;
          stands = f.stands;
          bytes = e.bytes ++ f.came.come;
          taken = f.came.taken_is ∙ ap (λ (xs : List ℕ). xs ++ f.came.come) e.taken ∙ append_assoc k.taken e.bytes f.came.come;
          tape = λ t. f.tape (e.tape t);
          at = so login (place_kept login e.end) (place_kept login f.end) f.came.sent f.came.taken e.at f.came.course_is;
        };
  }

-- what holds of the place is said of the bytes
pub did : {L : Type 0} (P : Login → Place → Type 0) (holds : Login → Kept → Type 0) (old new : ConnSeen L) → Went P old new
    → ((login : Login) (k : Kept) → IsTape login (tape_kept k) → AreBytes k.taken → P login (place_kept login k) → holds login k) → Did holds old new
did P holds old new a so = record {
  was = a.was;
  is = a.is;
  each = λ login k w.
      let e = a.each login k w in
      record { end = e.end; stands = e.stands; bytes = e.bytes; taken = e.taken; tape = e.tape; says = λ t bytes. so login e.end (e.tape t) bytes e.at };
}

-- what a caller got is of an answer
waited : {A : Type 0} (f : Answer → A) (x : A) (r : Result Answer Error) → Ok x ≡ waited_by f r → (answer : Answer) × (r ≡ Ok answer) × (x ≡ f answer)
waited f x (Ok answer) e = (answer, refl, cc)
waited f x (Err error) e = cc

-- a call of an open connection, of which the caller got this
pub record Waited {L A : Type 0} (call : Call) (c : CallKind) (f : Answer → A) (x : A) (old new : ConnSeen L) : Type 0 where
  pub answer : Answer
  pub got : x ≡ f answer
  pub fits : may_be c (told answer) ≡ true
  pub step : Stepped call answer old new

pub waits : {L A : Type 0} (look : L → Looks) (f : Answer → A) (x : A) (c : CallKind) (call : Call) (old new : ConnSeen L) → old.pending ≡ None → is_unrefused (kind_of call) ≡ false → is_connect (kind_of call) ≡ false
    → lost_result c ≡ Err connection_closed → WaitIs look f c call old new (Ok x) → Waited call c f x old new
waits look f x c call old new idle asks other refuses w =
    let a = waited f x w.0 w.1 in
    let d : DriveIs look c call old new (Ok a.0) = subst (DriveIs look c call old new) a.1 w.2 in
    record { answer = a.0; got = a.2; fits = d.fits; step = stepped look c call a.0 old new idle asks other refuses d }

-- of the calls that are answered by nothing else, one that is done is ready
pub record IsPlain (c : CallKind) : Type 0 where
  pub reads_none : reads c ≡ false
  pub lacks_none : may_lack_sets c ≡ false
  pub prepares_none : prepares c ≡ false
  pub resets_none : resets c ≡ false

pub ready_told : (c : CallKind) → IsPlain c → (answer : Answer) → may_be c (told answer) ≡ true → told answer ≡ ToldReady
ready_told c w answers.Ready e = refl
ready_told c w (answers.Row r) e = let no = w.reads_none in absurd (cc)
ready_told c w answers.SetEnd e = let no = w.reads_none in absurd (cc)
ready_told c w answers.NoSet e = let no = w.lacks_none in absurd (cc)
ready_told c w (answers.Stmt s) e = let no = w.prepares_none in absurd (cc)
ready_told c w (answers.Flag b) e = let no = w.resets_none in absurd (cc)

-- what a read returned
pub row_told : (r : RowParts) (answer : Answer) → Row r ≡ next_of answer → told answer ≡ ToldRow r
row_told r answers.Ready e = cc
row_told r (answers.Row q) e = let same : q ≡ r = cc in ap ToldRow same
row_told r answers.SetEnd e = cc
row_told r answers.NoSet e = cc
row_told r (answers.Stmt s) e = cc
row_told r (answers.Flag b) e = cc

pub end_told : (answer : Answer) → SetEnd ≡ next_of answer → told answer ≡ ToldEnd
end_told answers.Ready e = cc
end_told (answers.Row q) e = cc
end_told answers.SetEnd e = refl
end_told answers.NoSet e = cc
end_told (answers.Stmt s) e = cc
end_told (answers.Flag b) e = cc

pub none_told : (answer : Answer) → NoSet ≡ next_of answer → may_be kinds.NextRow (told answer) ≡ true → told answer ≡ ToldNone
none_told answers.Ready e f = cc
none_told (answers.Row q) e f = cc
none_told answers.SetEnd e f = cc
none_told answers.NoSet e f = refl
none_told (answers.Stmt s) e f = cc
none_told (answers.Flag b) e f = cc
