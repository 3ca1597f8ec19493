use Rattle.std.proofs.Common.{◌≡◌, ℕ, ◌+◌, ◌<◌, Bool, true, false, List, ◌∷◌, length, get_or, drop, Some, sym, ap, ◌∙◌}
use Rattle.std.proofs.lemmas.List.{at_drop_all, at_drop_more}
use Rattle.std.specs.Prelude.{if◌then◌else◌}
use Rattle.my_server.specs.declared.script.Reply.{Reply}
use Rattle.my_server.specs.declared.script.ScriptFault.TheVariants.{BadReply}
use Rattle.my_server.specs.Faults.{is_reply, reply_fault}
use Rattle.my_server.proofs.check.check_replies.Goals as goal

-- the fault of the replies that are left, by whether the first of them can be sent
at_first : (replies : List Reply) (i : ℕ) (reply : Reply) (sent : Bool) → i < length replies → reply ≡ get_or replies i reply → sent ≡ is_reply reply → reply_fault i (drop i replies) ≡ reply_fault 0 replies → (if sent then reply_fault (i + 1) (drop (i + 1) replies) else Some (BadReply i)) ≡ reply_fault 0 replies
at_first replies i reply sent within is sent_is left =
    let rest = drop (i + 1) replies in
    ap (λ (b : Bool). if b then reply_fault (i + 1) rest else Some (BadReply i)) sent_is ∙ ap (λ x. reply_fault i (x ∷ rest)) is ∙ sym (at_drop_more (reply_fault i) replies i reply within) ∙ left

pub loop-index-preserved : goal.loop-index-preserved
loop-index-preserved c =
    at_first c.args.replies.now c.loop-index.index c.index-replies-index.result true c.loop-index-test.true c.index-replies-index.is (sym c.if-not-branch.false ∙ c.in_ok-is_reply.ensures) c.loop-index.invariant

pub returns-then-not-branch : goal.returns-then-not-branch
returns-then-not-branch c =
    sym (at_first c.args.replies.now c.loop-index.index c.index-replies-index.result false c.loop-index-test.true c.index-replies-index.is (sym c.if-not-branch.true ∙ c.in_ok-is_reply.ensures) c.loop-index.invariant)

pub returns : goal.returns
returns c =
    sym c.loop-index.invariant ∙ at_drop_all (reply_fault c.loop-index.index) c.args.replies.now c.loop-index.index c.loop-index-test.false
