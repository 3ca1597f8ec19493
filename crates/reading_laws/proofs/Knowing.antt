-- What is known of the place where a call stands, by the parts of it that are done, and what each part adds to that or takes from it.
use Rattle.std.proofs.Common.{◌≡◌, ℕ, Bool, true, false, List, [], ◌∷◌, refl}
use Rattle.my_opts.specs.ChangeUser.{ChangeView}
use Rattle.my_reading.specs.declared.transaction.TxStatus.{TxStatus}
use Rattle.my_reading.specs.declared.transaction.TxStatus.TheVariants as txs
use Rattle.my_reading.specs.Clean.{is_read_whole}
use Rattle.my_reading.specs.Course.{Part, All, Command, Text, Adopt, Renew, Clear, Drain, Undo, Undone, GiveUp, parts_of_queries, parts_of_texts}
use Rattle.my_reading.specs.Place.{Place}
use Rattle.my_reading.specs.Transactions.{given_up, rolled_back}

-- of the transaction nothing is known, or that none stands, or that there is none
pub data Level : Type 0 where
  Any : Level
  Outside : Level
  Ended : Level

-- whether each response was read whole, what is known of the transaction, and whether no statement is cached
pub record Known : Type 0 where
  pub read : Bool
  pub level : Level
  pub uncached : Bool

abbrev pub known : Bool → Level → Bool → Known
known read level uncached = record { read = read; level = level; uncached = uncached }

abbrev pub given_up_level : Level → Level
given_up_level Any = Outside
given_up_level Outside = Outside
given_up_level Ended = Ended

abbrev pub rolled_back_level : Level → Level
rolled_back_level Any = Any
rolled_back_level Outside = Ended
rolled_back_level Ended = Ended

-- the parts of the calls that make or clean a connection, or renew its session
pub data IsCleaning : Part → Type 0 where
  Reads : IsCleaning All
  Drains : IsCleaning Drain
  Undoes : IsCleaning Undo
  Settles : IsCleaning Undone
  GivesUp : IsCleaning GiveUp
  Commands : IsCleaning Command
  Asks : (text : List ℕ) → IsCleaning (Text text)
  Renews : IsCleaning Renew
  Adopts : (change : ChangeView) → IsCleaning (Adopt change)
  Clears : IsCleaning Clear

abbrev pub AreCleaning : List Part → Type 0
AreCleaning [] = Unit {0}
AreCleaning (part ∷ parts) = IsCleaning part × AreCleaning parts

-- what is known after such a part
abbrev pub after : Part → Known → Known
after All k = known true k.level k.uncached
after Drain k = known true k.level k.uncached
after Undo k = known false k.level k.uncached
after Undone k = known k.read (rolled_back_level k.level) k.uncached
after GiveUp k = known k.read (given_up_level k.level) k.uncached
after Command k = known false k.level k.uncached
after (Text text) k = known false k.level k.uncached
after Renew k = known false k.level k.uncached
after Clear k = known k.read k.level true
after part k = k

abbrev pub after_all : List Part → Known → Known
after_all [] k = k
after_all (part ∷ parts) k = after_all parts (after part k)

-- what is known holds of a place
abbrev pub StatusIs : Level → TxStatus → Type 0
StatusIs Any s = Unit {0}
StatusIs Outside txs.None = Unit {0}
StatusIs Outside txs.InTransaction = ⊥
StatusIs Outside txs.RequiresRollback = Unit {0}
StatusIs Ended s = s ≡ txs.None

abbrev pub IfKnown : Bool → Type 0 → Type 0
IfKnown true T = T
IfKnown false T = Unit {0}

pub record Holds (k : Known) (p : Place) : Type 0 where
  pub read : IfKnown k.read (is_read_whole p ≡ true)
  pub level : StatusIs k.level p.status
  pub uncached : IfKnown k.uncached (p.statements.cache.list ≡ [])

pub given_up_is : (l : Level) (s : TxStatus) → StatusIs l s → StatusIs (given_up_level l) (given_up s)
given_up_is Any txs.None w = tt
given_up_is Any txs.InTransaction w = tt
given_up_is Any txs.RequiresRollback w = tt
given_up_is Outside txs.None w = tt
given_up_is Outside txs.InTransaction w = tt
given_up_is Outside txs.RequiresRollback w = tt
given_up_is Ended txs.None w = refl
given_up_is Ended txs.InTransaction w = absurd (cc)
given_up_is Ended txs.RequiresRollback w = absurd (cc)

pub rolled_back_is : (l : Level) (s : TxStatus) → StatusIs l s → StatusIs (rolled_back_level l) (rolled_back s)
rolled_back_is Any s w = tt
rolled_back_is Outside txs.None w = refl
rolled_back_is Outside txs.InTransaction w = absurd w
rolled_back_is Outside txs.RequiresRollback w = refl
rolled_back_is Ended txs.None w = refl
rolled_back_is Ended txs.InTransaction w = absurd (cc)
rolled_back_is Ended txs.RequiresRollback w = absurd (cc)

-- queries of the client's own are sent, and the response to the last is read whole
pub queries_clean : (texts : List (List ℕ)) → AreCleaning (parts_of_queries texts [])
queries_clean [] = (Reads, tt)
queries_clean (text ∷ texts) = (Reads, (Asks text, queries_clean texts))

pub queries_know : (texts : List (List ℕ)) (k : Known) → after_all (parts_of_queries texts []) k ≡ known true k.level k.uncached
queries_know [] k = refl
queries_know (text ∷ texts) k = queries_know texts (known false k.level k.uncached)

-- the queries that set a connection up are sent, each once the response before it was read whole
pub texts_clean : (texts : List (List ℕ)) → AreCleaning (All ∷ parts_of_texts texts)
texts_clean [] = (Reads, tt)
texts_clean (text ∷ texts) = (Reads, (Commands, texts_clean texts))

pub texts_know : (texts : List (List ℕ)) (k : Known) → after_all (All ∷ parts_of_texts texts) k ≡ known true k.level k.uncached
texts_know [] k = refl
texts_know (text ∷ texts) k = texts_know texts (known false k.level k.uncached)
