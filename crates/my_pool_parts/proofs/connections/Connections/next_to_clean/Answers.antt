use Rattle.std.proofs.Common.{◌≡◌, ◌<◌, cond, None, sym, ap, ◌∙◌, arith, length, get_or}
use Rattle.std.specs.Prelude.{find}
use Rattle.my_pool_parts.specs.Connections.{has_number, is_idle, is_returned, next_to_clean}
use Rattle.my_pool_parts.specs.Stored.{numbers_at}
use Rattle.my_pool_parts.proofs.Queues.{front-is, empty-none, empty-find}
use Rattle.my_pool_parts.proofs.Strung.{get-is, get-none}
use Rattle.my_pool_parts.proofs.connections.Connections.next_to_clean.Goals as goal

pub returns-in-Some : goal.returns-in-Some
returns-in-Some c =
    let cs = c.self.inside.arrivals.list in
    let inv = c.self.invariant in
    let n = c.in-Some.number in
    let read = get-is c.self.inside.returned.items 0 n (sym c.get.ensures.number ∙ c.in-Some.is) in
    let it : get_or (numbers_at is_returned cs) 0 n ≡ n = ap (λ ns. get_or ns 0 n) (sym inv.returned_are) ∙ sym read.0 in
    let some : 0 < length (numbers_at is_returned cs) = omega (arith, read.1, ap length inv.returned_are) in
    let f = front-is is_returned cs n some inv.once in
    c.find.ensures ∙ ap (λ s. find (has_number n) s.list) (sym c.self.view_is)
    ∙ ap (λ k. find (has_number k) cs) (sym it) ∙ sym f.0
    ∙ ap (λ b. cond b (find is_returned cs) (cond c.args.closed (find is_idle cs) None)) (sym f.1)
    ∙ ap (λ s. next_to_clean c.args.closed s.list) c.self.view_is

pub returns-then-not-closed : goal.returns-then-not-closed
returns-then-not-closed c =
    let cs = c.self.inside.arrivals.list in
    let none = empty-none is_returned cs c.self.inside.returned.items c.self.invariant.returned_are (get-none c.self.inside.returned.items (sym c.get.ensures.number ∙ c.in_default.is)) in
    ap (λ b. cond b (find is_idle cs) None) (sym c.if-not-closed.true)
    ∙ ap (λ b. cond b (find is_returned cs) (cond c.args.closed (find is_idle cs) None)) (sym none)
    ∙ ap (λ s. next_to_clean c.args.closed s.list) c.self.view_is

pub returns-in-Some-get : goal.returns-in-Some-get
returns-in-Some-get c =
    let cs = c.self.inside.arrivals.list in
    let inv = c.self.invariant in
    let n = c.in-Some-get.number in
    let read = get-is c.self.inside.idle.items 0 n (sym c.get-2.ensures.number ∙ c.in-Some-get.is) in
    let none = empty-none is_returned cs c.self.inside.returned.items inv.returned_are (get-none c.self.inside.returned.items (sym c.get.ensures.number ∙ c.in_default.is)) in
    let it : get_or (numbers_at is_idle cs) 0 n ≡ n = ap (λ ns. get_or ns 0 n) (sym inv.idle_are) ∙ sym read.0 in
    let some : 0 < length (numbers_at is_idle cs) = omega (arith, read.1, ap length inv.idle_are) in
    let f = front-is is_idle cs n some inv.once in
    c.find-in-Some-get.ensures ∙ ap (λ s. find (has_number n) s.list) (sym c.self.view_is)
    ∙ ap (λ k. find (has_number k) cs) (sym it) ∙ sym f.0
    ∙ ap (λ b. cond b (find is_idle cs) None) (sym c.if-not-closed.false)
    ∙ ap (λ b. cond b (find is_returned cs) (cond c.args.closed (find is_idle cs) None)) (sym none)
    ∙ ap (λ s. next_to_clean c.args.closed s.list) c.self.view_is

pub returns-in-None : goal.returns-in-None
returns-in-None c =
    let cs = c.self.inside.arrivals.list in
    let inv = c.self.invariant in
    let none = empty-none is_returned cs c.self.inside.returned.items inv.returned_are (get-none c.self.inside.returned.items (sym c.get.ensures.number ∙ c.in_default.is)) in
    let nothing = empty-find is_idle cs c.self.inside.idle.items inv.idle_are (get-none c.self.inside.idle.items (sym c.get-2.ensures.number ∙ c.in-None.is)) in
    sym nothing
    ∙ ap (λ b. cond b (find is_idle cs) None) (sym c.if-not-closed.false)
    ∙ ap (λ b. cond b (find is_returned cs) (cond c.args.closed (find is_idle cs) None)) (sym none)
    ∙ ap (λ s. next_to_clean c.args.closed s.list) c.self.view_is
