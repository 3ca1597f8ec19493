use Rattle.std.proofs.Common.{◌≡◌, ◌<◌, ◌≤◌, ◌+◌, length, take, drop, get_or, refl, rules}
use Rattle.my_link.specs.declared.link.ReadItem.TheVariants.{Bytes}
use Rattle.my_link.proofs.Reading.{item_out, gave_part, gave_whole}
use Rattle.my_link.proofs.memory.MemLinkLink.read.Goals as goal

pub returns-then-from-len-clause-looks : goal.returns-then-from-len-clause-looks
returns-then-from-len-clause-looks c =
    let within : c.args.self.now.place < length c.args.self.now.items.items = search rules in
    let there : get_or c.args.self.now.items.items c.args.self.now.place (Bytes c.in-Some-Bytes.bytes) ≡ Bytes c.in-Some-Bytes.bytes = search rules in
    let out = item_out c.args.self.now.place c.args.self.now.items.items (Bytes c.in-Some-Bytes.bytes) within there in
    let less : c.args.self.now.from + c.copy_front-n.result < length c.in-Some-Bytes.bytes = search rules in
    let copied : take c.copy_front-n.result c.copy_front-n.new.buf ≡ take c.copy_front-n.result (drop c.args.self.now.from c.in-Some-Bytes.bytes) = search rules in
    (c.copy_front-n.ensures.some, c.copy_front-n.ensures.fits, record { items = gave_part c.args.self.now.from c.copy_front-n.result c.in-Some-Bytes.bytes c.copy_front-n.new.buf _ _ out less copied; writes = refl; got = refl; counts = refl })

pub returns-else-from-len-clause-looks : goal.returns-else-from-len-clause-looks
returns-else-from-len-clause-looks c =
    let within : c.args.self.now.place < length c.args.self.now.items.items = search rules in
    let there : get_or c.args.self.now.items.items c.args.self.now.place (Bytes c.in-Some-Bytes.bytes) ≡ Bytes c.in-Some-Bytes.bytes = search rules in
    let out = item_out c.args.self.now.place c.args.self.now.items.items (Bytes c.in-Some-Bytes.bytes) within there in
    let less : length c.in-Some-Bytes.bytes ≤ c.args.self.now.from + c.copy_front-n.result = search rules in
    let copied : take c.copy_front-n.result c.copy_front-n.new.buf ≡ take c.copy_front-n.result (drop c.args.self.now.from c.in-Some-Bytes.bytes) = search rules in
    (c.copy_front-n.ensures.some, c.copy_front-n.ensures.fits, record { items = gave_whole c.args.self.now.from c.copy_front-n.result c.in-Some-Bytes.bytes c.copy_front-n.new.buf _ _ out less copied; writes = refl; got = refl; counts = refl })
