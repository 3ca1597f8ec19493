-- Where a call is, with what callers were given so far.
use Rattle.std.proofs.Common.{◌≡◌, ◌⊎◌, ℕ, List, [], ◌∷◌, Bool, true, false, not, ◌&&◌, ◌||◌, Option, Some, None}
use Rattle.my_grammar.specs.declared.spot.Terms.{Terms}
use Rattle.my_grammar.specs.Cut.{is_over}
use Rattle.my_grammar.specs.Sets.{Sets, Lone}
use Rattle.my_grammar.specs.Talk.{Talk, Queried, Fits}
use Rattle.my_reading.specs.declared.call.Call.{Call}
use Rattle.my_reading.specs.declared.call.Call.TheVariants.{Query, Prepare, Execute, CloseStmt, NextRow, DropResult, TakeSet, SkipTaken, Quit}
use Rattle.my_reading.specs.declared.transaction.Trial.{Trial}
use Rattle.my_reading.specs.declared.error.ServerError.{ServerError}
use Rattle.my_reading.specs.declared.transaction.Trial.TheVariants.{Off, Refused}
use Rattle.my_reading.specs.Executions.{Values, Fitting, Unfitting, values_for}
use Rattle.my_reading.specs.Calls.{kind_of, statement_in}
use Rattle.my_reading.specs.Course.{Part, All, Head, Item, Set, Rest, Command, Find, Check, Run, Reply, Keep, Give, Learn, Forget, Offered, Clear, Text, Flag, Adopt, Renew, Drain, Undo, Undone, Refuse, Settle, GiveUp, Try, Back, Step, Goes, Stops, Stop, Owes, Awaits, Returns}
use Rattle.my_reading.specs.Place.{Place, Exchange}
use Rattle.my_reading.specs.Told.{Told, closes}
use Rattle.history_laws.specs.Given.{AreGiven, IsGiven, Passed, givens, onto, passes_over}
use Rattle.history_laws.specs.Groups.{Group, Made, given, groups}

-- what callers know: all but the end of a lone OK that is still to be returned
abbrev pub known_part : Bool → Sets → Sets
known_part false x = x
known_part true (Lone older p status) = older
known_part true x = x

abbrev pub is_lone : Sets → Bool
is_lone (Lone older p status) = true
is_lone _ = false

-- of the newest exchange this was given; no transaction is being committed, unless `trying`
pub record Gave (trying : Bool) (ms : List Made) (talk : Talk) (older : List Exchange) (trial : Trial) (o : Option (List Group)) : Type 0 where
  pub olds : List (Option (List Group))
  pub given_is : given ms ≡ onto o (givens olds)
  pub newest : IsGiven o talk
  pub each : AreGiven olds older
  pub fits : Fits talk
  pub off : trying ≡ false → trial ≡ Off

abbrev pub GaveAt : Bool → List Made → Place → Option (List Group) → Type 0
GaveAt trying ms p o = Gave trying ms p.talk p.older p.trial o

-- the same where less is known of the commit
pub shifted : (a b : Bool) (ms : List Made) (talk : Talk) (older : List Exchange) (trial : Trial) (o : Option (List Group)) → (b ≡ false → a ≡ false) → Gave a ms talk older trial o → Gave b ms talk older trial o
shifted a b ms talk older trial o less w = record { olds = w.olds; given_is = w.given_is; newest = w.newest; each = w.each; fits = w.fits; off = λ e. w.off (less e) }

-- where none is being committed, nothing of it is left to be known
pub settled : (a b : Bool) (ms : List Made) (talk : Talk) (older : List Exchange) (trial : Trial) (o : Option (List Group)) → trial ≡ Off → Gave a ms talk older trial o → Gave b ms talk older trial o
settled a b ms talk older trial o off w = record { olds = w.olds; given_is = w.given_is; newest = w.newest; each = w.each; fits = w.fits; off = λ e. off }

-- something of a response is left, and all before it was given
pub record Left (talk : Talk) (end_left : Bool) (o : Option (List Group)) : Type 0 where
  pub terms : Terms
  pub command : List ℕ
  pub sets : Sets
  pub talk_is : talk ≡ Queried terms command sets
  pub share_is : o ≡ Some (groups (known_part end_left sets))
  pub lone : end_left ≡ true → is_lone sets ≡ true

-- nothing is left, or that
abbrev pub IsKept : Talk → Bool → Option (List Group) → Type 0
IsKept talk end_left o = ((is_over talk ≡ true) × (end_left ≡ false)) ⊎ Left talk end_left o

abbrev pub KeptAt : Place → Option (List Group) → Type 0
KeptAt p o = IsKept p.talk p.end_left o

-- the head of a query's first set, or a part of it, and nothing more
pub record IsFresh (talk : Talk) (end_left : Bool) : Type 0 where
  pub terms : Terms
  pub command : List ℕ
  pub sets : Sets
  pub talk_is : talk ≡ Queried terms command sets
  pub none : groups (known_part end_left sets) ≡ []
  pub lone : end_left ≡ true → is_lone sets ≡ true

-- what may follow the head of the first set of a query or of an execution
abbrev pub is_tail : List Part → Bool
is_tail [] = true
is_tail (Learn ∷ []) = true
is_tail parts = false

abbrev pub is_head : List Part → Bool
is_head (Head ∷ parts) = is_tail parts
is_head parts = false

-- what follows the command that prepares a statement
abbrev pub is_reply : List Part → Bool
is_reply (Reply ∷ Keep ∷ Give ∷ []) = true
is_reply parts = false

-- what is left of a commit that was refused
abbrev pub is_back : List Part → Bool
is_back (Undo ∷ Back ∷ []) = true
is_back (Back ∷ []) = true
is_back parts = false

-- the calls that return the rows of their own response
abbrev pub is_query : Call → Bool
is_query (Query text) = true
is_query (Execute statement params) = true
is_query c = false

abbrev pub is_fitting : Values → Bool
is_fitting (Fitting values) = true
is_fitting (Unfitting e) = false

-- a call may return: all that is left was given, and nothing is being committed
abbrev pub may_return : Bool → Bool → Bool
may_return kept trying = kept && not trying

-- after a command of its own
abbrev pub after_command : Call → List Part → Bool → Bool → Bool → Bool
after_command (Query text) parts trying kept left = not trying && is_head parts
after_command (Execute statement params) parts trying kept left = not trying && (is_fitting (values_for statement params) && is_head parts)
after_command (Prepare text) parts trying kept left = not trying && is_reply parts
after_command (CloseStmt id) parts trying kept left = kept
after_command Quit parts trying kept left = kept
after_command c parts trying kept left = left

-- whether a call with these parts returns only where all that is left of a response was given, if it was before, and where
-- nothing is being committed
abbrev pub is_safe : Call → Bool → Bool → List Part → Bool
is_safe c kept trying [] = may_return kept trying && not (is_query c)
is_safe c kept trying (All ∷ parts) = is_safe c true trying parts
is_safe c kept trying (Head ∷ parts) = is_safe c false trying parts
is_safe c kept trying (Command ∷ parts) = after_command c parts trying (is_safe c true trying parts) (is_safe c false trying parts)
is_safe c kept trying (Find ∷ parts) = may_return kept trying && is_safe c kept trying parts
is_safe c kept trying (Check params ∷ parts) = may_return kept trying && (not (is_fitting (values_for (statement_in c) params)) || is_safe c kept trying parts)
is_safe c kept trying (Run params ∷ parts) = is_safe c false trying parts
is_safe c kept trying (Keep ∷ parts) = kept && is_safe c true trying parts
is_safe c kept trying (Give ∷ parts) = may_return kept trying
is_safe c kept trying (Learn ∷ parts) = is_safe c kept trying parts
is_safe c kept trying (Forget ∷ parts) = is_safe c kept trying parts
is_safe c kept trying (Offered ∷ parts) = may_return kept trying && is_safe c kept trying parts
is_safe c kept trying (Clear ∷ parts) = is_safe c kept trying parts
is_safe c kept trying (Text text ∷ parts) = is_safe c false trying parts
is_safe c kept trying (Flag flag ∷ parts) = may_return kept trying
is_safe c kept trying (Adopt change ∷ parts) = is_safe c kept trying parts
is_safe c kept trying (Renew ∷ parts) = is_safe c false trying parts
is_safe c kept trying (Drain ∷ parts) = is_safe c true trying parts
is_safe c kept trying (Undo ∷ parts) = is_safe c false trying parts
is_safe c kept trying (Undone ∷ parts) = is_safe c kept trying parts
is_safe c kept trying (Refuse opts ∷ parts) = may_return kept trying && is_safe c kept trying parts
is_safe c kept trying (Settle status ∷ parts) = is_safe c kept false parts
is_safe c kept trying (GiveUp ∷ parts) = is_safe c kept trying parts
is_safe c kept trying (Try ∷ parts) = is_safe c kept true parts
is_safe c kept trying (part ∷ parts) = false

-- the part by which a call passes over rows and ends
pub data IsPassing : Call → Part → Type 0 where
  Drops : IsPassing DropResult All
  Skips : IsPassing SkipTaken Rest

-- the calls that cancelling may leave open
abbrev pub reads_sets : Call → Bool
reads_sets NextRow = true
reads_sets DropResult = true
reads_sets TakeSet = true
reads_sets SkipTaken = true
reads_sets c = false

-- Where a call is.
pub data Phase (c : Call) (ms : List Made) : List Part → Place → Type 0 where
  Safely : (kept trying : Bool) (parts : List Part) (p : Place) (o : Option (List Group)) → reads_sets c ≡ false → is_safe c kept trying parts ≡ true → GaveAt trying ms p o → (kept ≡ true → KeptAt p o) → Phase c ms parts p
  Heading : (parts : List Part) (p : Place) → is_query c ≡ true → is_tail parts ≡ true → p.end_left ≡ false → IsFresh p.talk false → GaveAt false ms p None → Phase c ms (Head ∷ parts) p
  Answering : (parts : List Part) (p : Place) → is_query c ≡ true → is_tail parts ≡ true → IsFresh p.talk p.end_left → GaveAt false ms p None → Phase c ms parts p
  Replying : (p : Place) (o : Option (List Group)) → reads_sets c ≡ false → p.end_left ≡ false → GaveAt false ms p o → Phase c ms (Reply ∷ Keep ∷ Give ∷ []) p
  Backing : (parts : List Part) (first : ServerError) (p : Place) (o : Option (List Group)) → reads_sets c ≡ false → is_back parts ≡ true → p.end_left ≡ false → p.trial ≡ Refused first → GaveAt true ms p o → Phase c ms parts p
  Reading : (p : Place) (o : Option (List Group)) → c ≡ NextRow → GaveAt false ms p o → KeptAt p o → Phase c ms (Item ∷ []) p
  Taking : (p : Place) (o : Option (List Group)) → c ≡ TakeSet → GaveAt false ms p o → KeptAt p o → Phase c ms (Set ∷ []) p
  Passing : (part : Part) (p : Place) (o : Option (List Group)) → IsPassing c part → GaveAt false ms p o → KeptAt p o → Phase c ms (part ∷ []) p
  Over : (p : Place) (o : Option (List Group)) → passes_over c ≡ true → GaveAt false ms p o → KeptAt p o → Phase c ms [] p

-- after a call, on a session that is closed or not
pub record Rests (closed : Bool) (ms : List Made) (p : Place) : Type 0 where
  pub share : Option (List Group)
  pub gave : GaveAt closed ms p share
  pub kept : closed ≡ false → KeptAt p share

abbrev pub IsHalted : Call → List Made → Place → Type 0
IsHalted c ms p = Rests (not (reads_sets c)) ms p

-- with what it returns
abbrev pub returned_so : Call → Told → List Made → List Made
returned_so c t ms = record { call = c; what = t } ∷ ms

abbrev pub Stopped : Call → List Made → Place → Stop → Type 0
Stopped c ms p Owes = IsHalted c ms p
Stopped c ms p Awaits = IsHalted c ms p
Stopped c ms p (Returns t) = Rests (closes t (kind_of c)) (returned_so c t ms) p

-- a step from where these were given: with what it passed over
abbrev pub IsFine : Call → List Made → Step → Type 0
IsFine c ms (Goes parts q) = (more : List Made) × Passed c ms more × Phase c more parts q
IsFine c ms (Stops q s) = Stopped c ms q s
