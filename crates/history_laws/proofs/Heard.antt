-- Which ERRs of the exchanges callers heard, where a call is and after it, and what a payload and an exchange more do.
use Rattle.std.proofs.Common.{◌≡◌, ℕ, List, [], ◌∷◌, ◌++◌, Bool, true, false, not, Option, Some, None, is_some, refl, sym, ap, ◌∙◌}
use Rattle.my_reply.specs.declared.err.ErrPacket.{ErrPacket}
use Rattle.my_reply.specs.ErrPacket.{err_at}
use Rattle.my_grammar.proofs.Growth.{grows}
use Rattle.my_grammar.specs.declared.spot.Kind.{Kind}
use Rattle.my_grammar.specs.declared.spot.Kind.TheVariants as kinds
use Rattle.my_grammar.specs.declared.spot.Spot.{Spot}
use Rattle.my_grammar.specs.declared.spot.Spot.TheVariants as spots
use Rattle.my_grammar.specs.declared.spot.RowFormat.{RowFormat}
use Rattle.my_reply.specs.declared.column.Column.{Column as ColumnPacket}
use Rattle.my_grammar.specs.Contexts.{is_bad}
use Rattle.my_grammar.specs.Cut.{is_idle, is_over}
use Rattle.my_grammar.specs.Growth.{grow}
use Rattle.my_grammar.specs.Kinds.{kind_by}
use Rattle.my_grammar.specs.Talk.{Talk, Start, Fits, context_of, origin}
use Rattle.my_reading.specs.declared.call.Call.{Call}
use Rattle.my_reading.specs.declared.call.Call.TheVariants.{Commit}
use Rattle.my_reading.specs.declared.error.ServerError.{ServerError}
use Rattle.my_reading.specs.declared.transaction.Trial.TheVariants.{Off, Refused}
use Rattle.my_reading.specs.Calls.{kind_of}
use Rattle.my_reading.specs.Course.{Part, Undo, Back, Step, Goes, Stops, Stop, Owes, Awaits, Returns, is_greeting}
use Rattle.my_reading.specs.Errors.{server_error}
use Rattle.my_reading.specs.Place.{Place, Exchange, exchanges, with_exchange, with_talk}
use Rattle.my_reading.specs.Told.{Told, closes}
use Rattle.history_laws.specs.Errors.{AreHushed, EndedBy, error_onto, PassedErrors, errors_in, errors_of, errors_told, unless_hushed, with_told, with_unheard}
use Rattle.history_laws.specs.Groups.{Made}
use Rattle.history_laws.proofs.Calls.{is_tried}
use Rattle.history_laws.proofs.Blaming.{calm_blames, failed_blames, is_failed}
use Rattle.history_laws.proofs.Having.{Comes}
use Rattle.history_laws.proofs.Opening.{IsNew}
use Rattle.history_laws.proofs.Phases.{reads_sets, returned_so}

-- nothing is read of an exchange that is over
pub idle_bad : (s : Spot) (rows : RowFormat) (d : Bool) (n : ℕ) (columns : List ColumnPacket) (q : List ℕ) (k : Kind) → kind_by s rows d n columns q ≡ k → is_bad k ≡ false → is_idle s ≡ false
idle_bad spots.Idle rows d n columns q k e good = let bad : is_bad k ≡ true = ap is_bad (sym e) in cc
idle_bad _ rows d n columns q k e good = refl

pub unread : (p : Place) (k : Kind) (q : List ℕ) → Comes p k q → is_over p.talk ≡ false
unread p k q c = idle_bad (context_of p.talk).spot _ _ _ _ q k c.kind_is c.good

-- the ERRs of the exchanges were heard, but perhaps one; the newest exchange is hushed or isn't
pub record Heard (hushed : Bool) (ms : List Made) (talk : Talk) (es : List Exchange) (unheard : Option ServerError) : Type 0 where
  pub olds : List Bool
  pub are : AreHushed (hushed ∷ olds) es
  pub errors : errors_of (hushed ∷ olds) es ≡ with_unheard unheard (errors_told ms)
  pub fits : Fits talk

abbrev pub HeardAt : Bool → List Made → Place → Option ServerError → Type 0
HeardAt hushed ms p o = Heard hushed ms p.talk (exchanges p) o

-- where a call is
pub data Phase (c : Call) (ms : List Made) : List Part → Place → Type 0 where
  Hearing : (trying hushed : Bool) (parts : List Part) (p : Place) → is_tried c trying parts ≡ true → (trying ≡ true → c ≡ Commit) → (trying ≡ false → p.trial ≡ Off) → (hushed ≡ true → is_over p.talk ≡ true)
      → HeardAt hushed ms p None → ((first : ServerError) → p.trial ≡ Refused first → ⊥) → Phase c ms parts p
  Undoing : (first : ServerError) (p : Place) → c ≡ Commit → p.trial ≡ Refused first → is_over p.talk ≡ true → EndedBy first (exchanges p) → HeardAt false ms p (Some first) → Phase c ms (Undo ∷ Back ∷ []) p
  Backing : (first : ServerError) (hushed : Bool) (p : Place) → c ≡ Commit → p.trial ≡ Refused first → (hushed ≡ false → is_over p.talk ≡ true) → HeardAt hushed ms p (Some first) → Phase c ms (Back ∷ []) p

-- after a call, on a session that is closed or not
pub record Rests (closed : Bool) (ms : List Made) (p : Place) : Type 0 where
  pub hushed : Bool
  pub unheard : Option ServerError
  pub heard : HeardAt hushed ms p unheard
  pub clear : closed ≡ false → unheard ≡ None
  pub over : closed ≡ false → hushed ≡ true → is_over p.talk ≡ true
  pub off : closed ≡ false → p.trial ≡ Off
  pub spent : hushed ≡ false → is_some unheard ≡ true → is_over p.talk ≡ true

abbrev pub IsHalted : Call → List Made → Place → Type 0
IsHalted c ms p = Rests (not (reads_sets c)) ms p

abbrev pub Stopped : Call → List Made → Place → Stop → Type 0
Stopped c ms p Owes = IsHalted c ms p
Stopped c ms p Awaits = IsHalted c ms p
Stopped c ms p (Returns t) = Rests (closes t (kind_of c)) (returned_so c t ms) p

abbrev pub IsFine : Call → List Made → Step → Type 0
IsFine c ms (Goes parts q) = (more : List Made) × PassedErrors c ms more × Phase c more parts q
IsFine c ms (Stops q s) = Stopped c ms q s

-- what a payload more does
pub grown_calm : (hushed : Bool) (ms : List Made) (p : Place) (o : Option ServerError) (k : Kind) (q rest : List ℕ) → Comes p k q → is_failed k ≡ false → (hushed ≡ true → is_over p.talk ≡ true) → HeardAt hushed ms p o
    → HeardAt hushed ms (with_talk p (grow k p.talk q) rest) o
grown_calm hushed ms p o k q rest c calm over w = record {
  olds = w.olds;
  are = (λ h. absurd (let yes = over h in let no = unread p k q c in cc), w.are.1);
  errors = ap (λ es. unless_hushed hushed es ++ errors_of w.olds p.older) (calm_blames k p.talk q calm) ∙ w.errors;
  fits = (grows p.talk k q c.kind_is c.good c.short w.fits).fits;
}

-- an ERR of an exchange that isn't hushed
pub grown_error : (hushed : Bool) (ms made : List Made) (p : Place) (o : Option ServerError) (q rest : List ℕ) (e : ErrPacket) → Comes p kinds.Failed q → err_at (is_greeting (context_of p.talk).spot) q ≡ Some e → (hushed ≡ true → is_over p.talk ≡ true)
    → with_unheard o (errors_told made) ≡ server_error e ∷ errors_told ms → HeardAt hushed ms p None → HeardAt false made (with_talk p (grow kinds.Failed p.talk q) rest) o
grown_error true ms made p o q rest e c is over says w = absurd (let yes = over refl in let no = unread p kinds.Failed q c in cc)
grown_error false ms made p o q rest e c is over says w =
    let more : errors_in (grow kinds.Failed p.talk q) ≡ server_error e ∷ errors_in p.talk
    = failed_blames p.talk q c.kind_is ∙ ap (λ x. error_onto x (errors_in p.talk)) is in
    record {
      olds = w.olds;
      are = (λ h. absurd (cc), w.are.1);
      errors = ap (λ es. es ++ errors_of w.olds p.older) more ∙ ap (λ es. server_error e ∷ es) w.errors ∙ sym says;
      fits = (grows p.talk kinds.Failed q c.kind_is c.good c.short w.fits).fits;
    }

-- the newest exchange of a commit that is rolled back: whatever is read of it is hushed
pub hushed_grown : (ms made : List Made) (p : Place) (o x : Option ServerError) (k : Kind) (q rest : List ℕ) → Comes p k q → with_unheard x (errors_told made) ≡ with_unheard o (errors_told ms) → HeardAt true ms p o
    → HeardAt true made (with_talk p (grow k p.talk q) rest) x
hushed_grown ms made p o x k q rest c says w =
    let gr = grows p.talk k q c.kind_is c.good c.short w.fits in
    record {
      olds = w.olds;
      are = (λ h. let x = w.are.0 h in (x.0, record { commits = x.1.commits; rolls_back = gr.origin_is ∙ x.1.rolls_back; first = x.1.first; after = x.1.after }), w.are.1);
      errors = w.errors ∙ sym says;
      fits = gr.fits;
    }

-- exchanges begin without an ERR
origin_calm : (t : Talk) → errors_in (origin t) ≡ []
origin_calm (Start login) = refl
origin_calm _ = refl

new_calm : (t : Talk) → IsNew t → errors_in t ≡ []
new_calm t n = ap errors_in (sym n.origin_is) ∙ origin_calm t

pub begun_heard : (hushed : Bool) (ms : List Made) (p : Place) (o : Option ServerError) (call : Call) (t : Talk) → IsNew t → HeardAt hushed ms p o → HeardAt false ms (with_exchange p call t) o
begun_heard hushed ms p o call t n w = record {
  olds = hushed ∷ w.olds;
  are = (λ h. absurd (cc), w.are);
  errors = ap (λ es. es ++ errors_of (hushed ∷ w.olds) (exchanges p)) (new_calm t n) ∙ w.errors;
  fits = n.fits;
}

-- what is told besides a server's error
pub told_heard : (hushed : Bool) (c : Call) (ms : List Made) (p : Place) (o : Option ServerError) (t : Told) → ((es : List ServerError) → with_told t es ≡ es) → HeardAt hushed ms p o → HeardAt hushed (returned_so c t ms) p o
told_heard hushed c ms p o t calm w = record { olds = w.olds; are = w.are; errors = w.errors ∙ ap (with_unheard o) (sym (calm (errors_told ms))); fits = w.fits }

-- nothing is read of an exchange that is hushed, but while it is rolled back
pub opened : (hushed : Bool) (p : Place) (k : Kind) (q : List ℕ) → (hushed ≡ true → is_over p.talk ≡ true) → Comes p k q → hushed ≡ false
opened true p k q over come = absurd (let yes = over refl in let no = unread p k q come in cc)
opened false p k q over come = refl
