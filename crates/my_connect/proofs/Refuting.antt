-- The error of a dial is returned where a dial gave no link alone.
use Rattle.std.proofs.Common.{ℕ, ◌≡◌, ◌∙◌, inl, inr, ◌<◌, ◌+◌, ◌-◌, ◌^◌, min, Result, Ok, Err, ap, sym, subst, arith}
use Rattle.my_link.specs.Looks.{Looks}
use Rattle.my_opts.specs.Opts.{OptsView}
use Rattle.my_reading.specs.declared.error.Error.{Error}
use Rattle.my_reading.specs.declared.error.Error.TheVariants as errors
use Rattle.my_link.specs.World.{DialCounts, WorldSeen}
use Rattle.my_conn.specs.Conn.{ConnSeen}
use Rattle.my_conn.specs.News.{Given, given_by}
use Rattle.my_conn.proofs.Refusing.{IsOwn, new_own}
use Rattle.my_connect.specs.Connected.{GivesUp, LeftBy, MadeOver}
use Rattle.my_connect.specs.Dialed.{DialIs, NoLink, undialed}
use Rattle.my_connect.specs.Refuted.{AreCounted, DialsAreCounted}

one_more : (b c d : ℕ) → b < 2 ^ 64 - 1 → c ≡ b → d ≡ b → d ≡ min (c + 1) (2 ^ 64 - 1) → ⊥
one_more b c d small before same more = omega (arith, small, before, same, more)

module _ (old mid after : WorldSeen) (small : AreCounted old.dials) (before : mid.dials ≡ old.dials) (same : after.dials ≡ old.dials) where
  no_link : NoLink (mid.plans.dials 0) (after.plans.dials 0) mid.dials after.dials → ⊥
  no_link (inl failed) = one_more old.dials.faults mid.dials.faults after.dials.faults small.0
      (ap (λ (c : DialCounts). c.faults) before) (ap (λ (c : DialCounts). c.faults) same) failed.1.faults
  no_link (inr held) = one_more old.dials.holds mid.dials.holds after.dials.holds small.1
      (ap (λ (c : DialCounts). c.holds) before) (ap (λ (c : DialCounts). c.holds) same) held.1.holds

  no_dial : {L : Type 0} (look : L → Looks) (e : Error) → undialed ≡ e → DialIs look mid after (Err e) → ⊥
  no_dial look e is (inl out) = no_memory (is ∙ out.0)
    where
      no_memory : undialed ≡ errors.NoMemory → ⊥
      no_memory q = cc
  no_dial look e is (inr refused) = no_link refused.1.no_link

-- where a dial gave a link, the error is one of the connection's own
unmade : {L : Type 0} (look : L → Looks) (opts : OptsView) (g : Given) (after new : WorldSeen) → GivesUp look opts g after new undialed → ⊥
unmade look opts g after new w = by_end w.ends
  where
    by_end : LeftBy w.left.error (look w.left.link) after new undialed → ⊥
    by_end (inl ends) = subst IsOwn (sym ends.0) (new_own look opts g w.left w.unmade)
    by_end (inr ends) = let e = ends.0 in cc

abbrev failed : {A : Type 0} → Error → Result A Error
failed e = Err e

error_is : {A : Type 0} (e : Error) → failed {A = A} undialed ≡ failed {A = A} e → undialed ≡ e
error_is e q = cc

pub dials_counted : {L : Type 0} → DialsAreCounted L
dials_counted {L} look socket opts old new small same w = by w.link w.dialed w.made
  where
    by : (link : Result L Error) → DialIs look w.mid w.after link → MadeOver look socket opts w.told link w.after new (Err undialed) → ⊥
    by (Ok link) dialed made = unmade look opts (given_by look socket link w.told.now w.told.random) w.after new made
    by (Err e) dialed made =
        no_dial old w.mid w.after small w.is_told.dials (ap (λ (s : WorldSeen). s.dials) (sym made.1) ∙ same) look e (error_is {A = ConnSeen L} e made.0) dialed
