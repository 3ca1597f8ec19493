use Rattle.std.proofs.Common.{◌≡◌, Some, None, sym, ap, ◌∙◌}
use Rattle.std.specs.Prelude.{position, ◌==◌, option_map}
use Rattle.my_pool_store.specs.Shelves.{has}
use Rattle.my_pool_store.specs.Slots.{entry_of}
use Rattle.my_pool_store.proofs.Shelving.{taken-found, taken-left, none-found, none-left}
use Rattle.my_pool_store.proofs.shelf.Shelf.take.Goals as goal

pub returns-in-Some-clause-found : goal.returns-in-Some-clause-found
returns-in-Some-clause-found g c =
    let xs = c.self.inside.slots.items in
    let at : position (λ s. s.number == c.args.number) xs ≡ Some c.in-Some.index = ap (position (λ s. s.number == c.args.number)) (sym c.deref.ensures.value) ∙ sym c.index_of.ensures ∙ c.in-Some.is in
    let f = taken-found entry_of (has c.args.number) xs c.in-Some.index c.remove.result at in
    rw (← c.self.view_is) (sym (ap (option_map (λ e. e.conn)) f ∙ ap (λ s. Some s.conn) (sym c.remove.ensures.value)))

pub returns-in-Some-clause-kept : goal.returns-in-Some-clause-kept
returns-in-Some-clause-kept g c =
    let xs = c.self.inside.slots.items in
    let at : position (λ s. s.number == c.args.number) xs ≡ Some c.in-Some.index = ap (position (λ s. s.number == c.args.number)) (sym c.deref.ensures.value) ∙ sym c.index_of.ensures ∙ c.in-Some.is in
    let f = taken-left entry_of (has c.args.number) xs c.in-Some.index at in
    rw (← c.self.view_is, c.remove.ensures.items) f

pub returns-in-None-clause-found : goal.returns-in-None-clause-found
returns-in-None-clause-found g c =
    let xs = c.self.inside.slots.items in
    let at : position (λ s. s.number == c.args.number) xs ≡ None = ap (position (λ s. s.number == c.args.number)) (sym c.deref.ensures.value) ∙ sym c.index_of.ensures ∙ c.in-None.is in
    rw (← c.self.view_is) (sym (ap (option_map (λ e. e.conn)) (none-found entry_of (has c.args.number) xs at)))

pub returns-in-None-clause-kept : goal.returns-in-None-clause-kept
returns-in-None-clause-kept g c =
    let xs = c.self.inside.slots.items in
    let at : position (λ s. s.number == c.args.number) xs ≡ None = ap (position (λ s. s.number == c.args.number)) (sym c.deref.ensures.value) ∙ sym c.index_of.ensures ∙ c.in-None.is in
    rw (← c.self.view_is) (none-left entry_of (has c.args.number) xs at)
