use Rattle.std.proofs.Common.{◌≡◌, ◌-◌, ◌++◌, [], ◌∷◌, length, replicate, suc, sym, ap, ◌∙◌, arith, append_assoc}
use Rattle.std.proofs.lemmas.List.{length_push}
use Rattle.my_pool_parts.proofs.levels.Levels.fill.Goals as goal

pub loop-value-preserved : goal.loop-value-preserved
loop-value-preserved g c =
    let was = c.loop-value.self.items in
    let v = c.args.value in
    let left = c.args.len - length c.push.new.self.items in
    let more : c.args.len - length was ≡ suc left = omega (arith, c.loop-value-test.true, c.len.ensures.count, ap length c.push.ensures.items, length_push was v) in
    record {
      items = ap (λ xs. xs ++ replicate left v) c.push.ensures.items ∙ append_assoc was (v ∷ []) (replicate left v)
          ∙ ap (λ n. was ++ replicate n v) (sym more) ∙ c.loop-value.invariant.items;
      room = c.push.ensures.room ∙ c.loop-value.invariant.room;
    }
