use Rattle.std.proofs.Common.{◌≡◌, ◌-◌, Option, Some, None, IfSome, IfNone, length, drop, deque_items, refl, sym, ◌∙◌}
use Rattle.std.specs.Prelude.{◌==◌}
use Rattle.std.specs.List.{list_any}
use Rattle.my_pool_parts.proofs.Finding.{position-isnt}
use Rattle.my_pool_parts.proofs.Strung.{position-stands, nowhere, any-drop}
use Rattle.my_pool_parts.proofs.turns.part_of.Goals as goal

if-some : {X : Type 0} {Y : X → Type 0} (o : Option X) → ((x : X) → o ≡ Some x → Y x) → IfSome o Y
if-some None h = tt
if-some (Some x) h = h x refl

if-none : {X : Type 0} {Y : Type 0} (o : Option X) → (o ≡ None → Y) → IfNone o Y
if-none None h = h refl
if-none (Some x) h = tt

pub returns-in-Some-clause-found : goal.returns-in-Some-clause-found
returns-in-Some-clause-found c =
    let n = c.args.number in
    position-stands deque_items (λ part. list_any (λ m. m == n) (drop (length part.items - 1) part.items)) n c.args.parts.now c.in-Some.at
    (λ p e. any-drop (λ m. m == n) (length p.items - 1) p.items e) (sym c.ended_by.ensures.part ∙ c.in-Some.is)

pub returns-in-None-clause-found : goal.returns-in-None-clause-found
returns-in-None-clause-found c =
    let n = c.args.number in
    if-some c.first_with.result (λ k e. position-stands deque_items (λ part. list_any (λ m. m == n) part.items) n c.args.parts.now k (λ p h. h) (sym c.first_with.ensures.part ∙ e))

pub returns-in-None-clause-none : goal.returns-in-None-clause-none
returns-in-None-clause-none c =
    let n = c.args.number in
    if-none c.first_with.result (λ e. nowhere deque_items n c.args.parts.now (position-isnt (λ part. list_any (λ m. m == n) part.items) c.args.parts.now (sym c.first_with.ensures.part ∙ e)))
