-- What is copied is the front of the items.
use Rattle.std.proofs.Common.{◌≡◌, take}
use Rattle.my_frame.proofs.copied.copy_items.Given as goal

abbrev pub invariant-loop-item : goal.invariant-loop-item
invariant-loop-item g l = l.copies.items ≡ take l.item-index l.items
