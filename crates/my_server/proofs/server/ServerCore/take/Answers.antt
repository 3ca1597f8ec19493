use Rattle.std.proofs.Common.{◌≡◌, ◌⊎◌, ℕ, List, ◌++◌, inl, inr, refl, ap, sym, ◌∙◌, subst}
use Rattle.my_flags.specs.declared.flags.CapabilityFlags.{CapabilityFlags}
use Rattle.my_server.specs.declared.phase.CloseCause.{CloseCause}
use Rattle.my_server.specs.declared.phase.Phase.{Phase}
use Rattle.my_server.specs.declared.phase.Phase.TheVariants.{Login, Commands, Closed}
use Rattle.my_server.specs.Core.{served}
use Rattle.my_server.specs.History.{History, Stands, after_take}
use Rattle.my_server.specs.Machine.{Served, taken_by, with_bytes}
use Rattle.my_server.proofs.Standing.{took_stands}
use Rattle.my_server.proofs.server.ServerCore.take.Goals as goal

abbrev IsOpen : Phase → Type 0
IsOpen phase = (phase ≡ Login) ⊎ ((kept : CapabilityFlags) × phase ≡ Commands kept)

open_takes : (phase : Phase) (unread bytes : List ℕ) → IsOpen phase → unread ++ bytes ≡ taken_by phase unread bytes
open_takes phase unread bytes (inl e) = ap (λ p. taken_by p unread bytes) (sym e)
open_takes phase unread bytes (inr w) = ap (λ p. taken_by p unread bytes) (sym w.1)

abbrev with_unread : Served → List ℕ → Served
with_unread s unread = record { script = s.script; phase = s.phase; unread = unread; owed = s.owed }

open_takes_all : (s : Served) (bytes unread : List ℕ) → unread ≡ s.unread ++ bytes → IsOpen s.phase → with_unread s unread ≡ with_bytes s bytes
open_takes_all s bytes unread e is = ap (with_unread s) (e ∙ open_takes s.phase s.unread bytes is)

closed_takes : (s : Served) (bytes : List ℕ) (cause : CloseCause) → s.phase ≡ Closed cause → s ≡ with_bytes s bytes
closed_takes s bytes cause is = ap (λ p. with_unread s (taken_by p s.unread bytes)) (sym is)

open_stands : (s : Served) (h : History) (bytes unread : List ℕ) → unread ≡ s.unread ++ bytes → IsOpen s.phase → Stands s h → Stands (record { script = s.script; phase = s.phase; unread = unread; owed = s.owed }) (after_take s.phase h bytes)
open_stands s h bytes unread e is st =
    subst (λ x. Stands (record { script = s.script; phase = s.phase; unread = x; owed = s.owed }) (after_take s.phase h bytes)) (sym (e ∙ open_takes s.phase s.unread bytes is)) (took_stands s h bytes st)

pub returns-in-Closed-clause-stands : goal.returns-in-Closed-clause-stands
returns-in-Closed-clause-stands c =
    let is = sym (ap (λ s. s.phase) c.self.view_is) ∙ c.in-Closed.is in
    λ h st. subst (λ p. Stands c.args.self.now (after_take p h c.args.bytes.now)) (sym is) st

pub returns-in_ok-extend_from_slice-in-Login-clause-stands : goal.returns-in_ok-extend_from_slice-in-Login-clause-stands
returns-in_ok-extend_from_slice-in-Login-clause-stands c =
    rw (← c.self.view_is) (λ h st. open_stands (served c.self.inside) h c.args.bytes.now c.extend_from_slice.new.self.items c.in_ok-extend_from_slice-in-Login.ensures.ok c.in-Login.is st)

pub returns-in-Closed-clause-ok : goal.returns-in-Closed-clause-ok
returns-in-Closed-clause-ok c =
    rw (← c.self.view_is) (closed_takes (served c.self.inside) c.args.bytes.now c.in-Closed.field-0 c.in-Closed.is)

pub returns-in_ok-extend_from_slice-in-Login-clause-ok : goal.returns-in_ok-extend_from_slice-in-Login-clause-ok
returns-in_ok-extend_from_slice-in-Login-clause-ok c =
    rw (← c.self.view_is) (open_takes_all (served c.self.inside) c.args.bytes.now c.extend_from_slice.new.self.items c.in_ok-extend_from_slice-in-Login.ensures.ok c.in-Login.is)

pub returns-in_ok-extend_from_slice-in-Login-clause-closed : goal.returns-in_ok-extend_from_slice-in-Login-clause-closed
returns-in_ok-extend_from_slice-in-Login-clause-closed c = λ closed. refl
