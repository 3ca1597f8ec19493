use Rattle.std.proofs.Common.{◌≡◌, ◌+◌, ◌++◌, map, true, vec_len}
use Rattle.my_steps.specs.Slot.{handle_of}
use Rattle.my_run.specs.Tapes.{links_in, tape_view, tapes_in, with_links}
use Rattle.my_run.proofs.Stopping.{Hands}
use Rattle.my_run.proofs.run.tapes_of.Given as goal

abbrev pub decreases-slots : goal.decreases-slots
decreases-slots g l = vec_len l.slots

abbrev pub invariant-slots : goal.invariant-slots
invariant-slots g l = record {
  tapes : l.is_whole ≡ true → map tape_view l.tapes.items ++ tapes_in l.number (map (handle_of g.N.L.Link.looks) l.slots.items) ≡ tapes_in 0 (map (handle_of g.N.L.Link.looks) l.fn.slots.items);
  back : l.is_whole ≡ true → with_links (links_in l.number (map (handle_of g.N.L.Link.looks) l.slots.items)) (g.N.Dialer.seen l.world).back ≡ with_links (links_in 0 (map (handle_of g.N.L.Link.looks) l.fn.slots.items)) (g.N.Dialer.seen l.fn.world).back;
  hands : Hands l.is_whole (links_in l.number (map (handle_of g.N.L.Link.looks) l.slots.items)) (g.N.Dialer.seen l.world).back (with_links (links_in 0 (map (handle_of g.N.L.Link.looks) l.fn.slots.items)) (g.N.Dialer.seen l.fn.world).back);
  dials : (g.N.Dialer.seen l.world).dials ≡ (g.N.Dialer.seen l.fn.world).dials;
  chance : (g.N.Dialer.seen l.world).chance ≡ (g.N.Dialer.seen l.fn.world).chance;
  count : l.number + vec_len l.slots ≡ vec_len l.fn.slots;
}
