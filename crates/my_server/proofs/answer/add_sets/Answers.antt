use Rattle.std.proofs.Common.{◌≡◌, ℕ, ◌+◌, ◌-◌, ◌<◌, Bool, List, ◌∷◌, ◌++◌, length, get_or, drop, sym, ap, ◌∙◌, subst, arith, append_assoc, append-nil, length-drop}
use Rattle.std.proofs.lemmas.List.{at_drop_all, at_drop_more}
use Rattle.my_flags.specs.declared.flags.StatusFlags.{StatusFlags}
use Rattle.my_server.specs.declared.script.ServerSet.{ServerSet}
use Rattle.my_server.specs.Answer.{AreFew, set_payloads, set_status, sets_payloads}
use Rattle.my_server.proofs.answer.add_sets.Goals as goal

-- one set more was added
one_more : (d : Bool) (sets : List ServerSet) (i : ℕ) (set : ServerSet) (status : StatusFlags) (now new all : List (List ℕ)) → i < length sets → set ≡ get_or sets i set → status ≡ set_status (length sets - 1 - i) → new ≡ now ++ set_payloads d status set → now ++ sets_payloads d (drop i sets) ≡ all → new ++ sets_payloads d (drop (i + 1) sets) ≡ all
one_more d sets i set status now new all within is status_is put left =
    let rest = drop (i + 1) sets in
    let turn : sets_payloads d (drop i sets) ≡ sets_payloads d (set ∷ rest) = at_drop_more (sets_payloads d) sets i set within ∙ ap (λ x. sets_payloads d (x ∷ rest)) (sym is) in
    let count : length sets - 1 - i ≡ length rest = omega (arith, length-drop (i + 1) sets) in
    ap (λ x. x ++ sets_payloads d rest) (put ∙ ap (λ s. now ++ set_payloads d s set) (status_is ∙ ap set_status count)) ∙ append_assoc now _ _ ∙ ap (λ x. now ++ x) (sym turn) ∙ left

few_more : (sets : List ServerSet) (i : ℕ) (set : ServerSet) → i < length sets → set ≡ get_or sets i set → AreFew (drop i sets) → AreFew (set ∷ drop (i + 1) sets)
few_more sets i set within is few =
    subst AreFew (at_drop_more (λ x. x) sets i set within ∙ ap (λ x. x ∷ drop (i + 1) sets) (sym is)) few

pub add_set-requires : goal.add_set-requires
add_set-requires c = (few_more c.args.sets.now c.loop-index.index c.index-sets-index.result c.loop-index-test.true c.index-sets-index.is c.loop-index.invariant.few).0

pub loop-index-preserved : goal.loop-index-preserved
loop-index-preserved c =
    let sets = c.args.sets.now in
    let i = c.loop-index.index in
    let set = c.index-sets-index.result in
    record {
      added = one_more c.args.deprecates sets i set c.set_status-status.result c.loop-index.payloads c.add_set.new.payloads _ c.loop-index-test.true c.index-sets-index.is c.set_status-status.ensures c.in_ok-add_set.ensures c.loop-index.invariant.added;
      few = (few_more sets i set c.loop-index-test.true c.index-sets-index.is c.loop-index.invariant.few).1;
    }

pub returns : goal.returns
returns c =
    let now = c.loop-index.payloads in
    sym (append-nil now) ∙ sym (at_drop_all (λ l. now ++ sets_payloads c.args.deprecates l) c.args.sets.now c.loop-index.index c.loop-index-test.false) ∙ c.loop-index.invariant.added
