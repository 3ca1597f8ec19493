-- A connection that is made, or is being made, is put behind a box.
use Rattle.std.proofs.Common.{◌≡◌, ℕ, inl, inr, refl, sym, subst, None}
use Rattle.my_link.specs.Aid.{Texts}
use Rattle.my_link.specs.Looks.{Looks}
use Rattle.my_link.specs.Met.{nothing_met}
use Rattle.my_link.specs.declared.met.Met.{Met}
use Rattle.my_reading.specs.declared.error.Error.TheVariants as errors
use Rattle.my_conn.specs.Conn.{ConnSeen}
use Rattle.my_conn.specs.Connected.{ConnectIs}
use Rattle.my_conn.specs.Connects.{ConnectSeen}
use Rattle.my_conn.specs.News.{untaped}
use Rattle.my_conn.specs.declared.connecting.Connected.TheVariants as connecteds
use Rattle.my_pool.specs.Fit.{IsFit}
use Rattle.my_pool_requests.specs.Being.{IsBeingMade}
use Rattle.my_pool_requests.specs.Makes.{MadeFits, MakesOn, RunsOutOr}
use Rattle.my_pool_requests.specs.declared.making.Made.{Made}
use Rattle.my_pool_requests.specs.declared.making.Made.TheVariants as makings

module _ {L : Type 0} (look : L → Looks) (texts : Texts) (now : ℕ) (c : ConnectSeen L) (m : Met) where
  ran-out : (made : Made L) → made ≡ makings.Failed errors.NoMemory None → MakesOn look texts now c made
  ran-out made e = record {
    connected = connecteds.Failed (untaped errors.NoMemory c.link);
    met = nothing_met;
    connects = inl (record { error = refl; tape = refl; met = refl });
    comes = e;
  }

  pub pends-boxed : (new : ConnectSeen L) (made : Made L) → ConnectIs look texts now c m (connecteds.Pending new) → RunsOutOr (makings.Pending new) made → MakesOn look texts now c made
  pends-boxed new made is (inl e) = record { connected = connecteds.Pending new; met = m; connects = is; comes = e }
  pends-boxed new made is (inr e) = ran-out made e

  pub made-boxed : (conn : ConnSeen L) (made : Made L) → ConnectIs look texts now c m (connecteds.Made conn) → RunsOutOr (makings.Good conn) made → MakesOn look texts now c made
  made-boxed conn made is (inl e) = record { connected = connecteds.Made conn; met = m; connects = is; comes = e }
  made-boxed conn made is (inr e) = ran-out made e

module _ {L : Type 0} where
  pub pends-fits : (new : ConnectSeen L) (made : Made L) → IsBeingMade new → RunsOutOr (makings.Pending new) made → MadeFits made
  pends-fits new made b (inl e) = subst MadeFits (sym e) b
  pends-fits new made b (inr e) = subst MadeFits (sym e) tt

  pub made-fits : (conn : ConnSeen L) (made : Made L) → IsFit conn → RunsOutOr (makings.Good conn) made → MadeFits made
  made-fits conn made b (inl e) = subst MadeFits (sym e) b
  made-fits conn made b (inr e) = subst MadeFits (sym e) tt
