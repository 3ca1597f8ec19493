-- Requests as they may be answered, and as they may not. The list has a.csv and b.csv.
use Rattle.std.specs.Prelude.{ℕ, List, [], ◌∷◌, Some, codes, false, true}
use Rattle.my_link.specs.declared.aid.Opening.{Opening}
use Rattle.my_link.specs.declared.aid.Opening.TheVariants.{Opened, NotListed, Absent, Failed}
use Rattle.my_frame.specs.declared.source.SourceStep.TheVariants.{Got, End}
use Rattle.my_frame.specs.declared.source.SourceStep.TheVariants as reads
use Rattle.my_files.specs.Lending.{IsNamed, OpensListed, ReadsOpened, is_listed}

abbrev pub listed : List (List ℕ)
listed = codes "a.csv" ∷ codes "b.csv" ∷ []

-- a first request for this name may be answered so, where these names were handed to the file system
abbrev pub Answers : List ℕ → Opening → List (List ℕ) → Type 0
Answers name step names = OpensListed (is_listed name listed) name (Some []) step (Some names)

pub record Accepted : Type 0 where
  pub opened : Answers (codes "b.csv") Opened (codes "b.csv" ∷ [])
  pub absent : Answers (codes "b.csv") Failed (codes "b.csv" ∷ [])
  pub out_of_memory : Answers (codes "b.csv") Failed []
  pub outside : Answers (codes "/etc/passwd") NotListed []

pub record Refuted : Type 0 where
  -- a file outside the list that is opened, also where the answer doesn't say so
  pub any_name : Answers (codes "/etc/passwd") Opened (codes "/etc/passwd" ∷ []) → ⊥
  pub in_secret : Answers (codes "/etc/passwd") NotListed (codes "/etc/passwd" ∷ []) → ⊥
  pub in_vain : Answers (codes "/etc/passwd") Failed (codes "/etc/passwd" ∷ []) → ⊥
  -- another file in place of the one that was asked for, or beside it
  pub another : Answers (codes "b.csv") Opened (codes "a.csv" ∷ []) → ⊥
  pub two : Answers (codes "b.csv") Opened (codes "b.csv" ∷ codes "a.csv" ∷ []) → ⊥
  -- a path that leads to a listed file, a longer name, and none
  pub path : Answers (codes "./b.csv") Opened (codes "./b.csv" ∷ []) → ⊥
  pub longer : Answers (codes "b.csv.gz") Opened (codes "b.csv.gz" ∷ []) → ⊥
  pub empty : Answers [] Opened ([] ∷ []) → ⊥
  -- a listed name that is refused, or for which no handler is said to be set
  pub refused : Answers (codes "a.csv") NotListed [] → ⊥
  pub no_handler : Answers (codes "a.csv") Absent [] → ⊥
  -- opened without a file
  pub unopened : Answers (codes "a.csv") Opened [] → ⊥
  -- another file than the one that was asked for
  pub misnamed : IsNamed (Some (codes "a.csv")) (codes "b.csv") → ⊥
  -- bytes and an end of no file, and a file that stays open where a read failed
  pub bytes_of_none : ReadsOpened false (Got 1) true → ⊥
  pub end_of_none : ReadsOpened false End false → ⊥
  pub left_open : ReadsOpened true reads.Failed true → ⊥

abbrev pub AreTried : Type 0
AreTried = Accepted × Refuted
