use Rattle.std.proofs.Common.{◌≡◌, []}
use Rattle.std.specs.Prelude.{unwrap_or}
use Rattle.form_urlencoded.specs.Form.{raw_pairs}
use Rattle.form_urlencoded.specs.Parse.{pairs_left}
use Rattle.my_opts.specs.Query.{after_pairs}
use Rattle.my_opts.proofs.from_url.gather_pairs.Given as goal

-- what is set so far and by the pairs that are left is what all pairs set
abbrev pub invariant-loop-pair : goal.invariant-loop-pair
invariant-loop-pair l =
    (goal.iterator-loop-pair).can_next l.pair-iterator × (goal.iterator-loop-pair).is_finite l.pair-iterator
    × (after_pairs (pairs_left l.pair-iterator) l.gathered
    ≡ after_pairs (raw_pairs (unwrap_or l.url.query [])) l.initial.gathered)
