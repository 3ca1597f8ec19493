use Rattle.std.proofs.Common.{◌≡◌, [], sym, ap, ◌∙◌, rules}
use Rattle.my_link.specs.MemLink.{unread, unwritten}
use Rattle.my_link.specs.Items.{LinkItems}
use Rattle.my_link.proofs.Planning.{at_end, handed, others}
use Rattle.my_link.proofs.mem_world.take_link.Goals as goal

pub returns-then-place-len-clause-reads : goal.returns-then-place-len-clause-reads
returns-then-place-len-clause-reads c =
    let none : unread c.new-then-place-len-2.result ≡ [] = search rules in
    none ∙ sym (ap (λ (a : LinkItems). a.reads) (at_end c.args.number c.args.links.now.items (search rules)))

pub returns-then-place-len-clause-writes : goal.returns-then-place-len-clause-writes
returns-then-place-len-clause-writes c =
    let none : unwritten c.new-then-place-len-2.result ≡ [] = search rules in
    none ∙ sym (ap (λ (a : LinkItems). a.writes) (at_end c.args.number c.args.links.now.items (search rules)))

pub returns-clause-reads : goal.returns-clause-reads
returns-clause-reads c = c.new-2.ensures.items ∙ c.take-reads.ensures.reads ∙ ap (λ (a : LinkItems). a.reads) (handed c.args.number c.place_of-place.result c.args.links.now.items c.index_mut.result.now (search rules) (search rules) (search rules))

pub returns-clause-writes : goal.returns-clause-writes
returns-clause-writes c = c.new-2.ensures.writes ∙ c.take-reads.ensures.writes ∙ ap (λ (a : LinkItems). a.writes) (handed c.args.number c.place_of-place.result c.args.links.now.items c.index_mut.result.now (search rules) (search rules) (search rules))

pub returns-clause-others : goal.returns-clause-others
returns-clause-others c = others c.args.number c.place_of-place.result c.args.links.now.items c.index_mut.result.now c.take-reads.new.self (search rules) (search rules) (search rules) (search rules)
