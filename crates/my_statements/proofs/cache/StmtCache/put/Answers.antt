use Rattle.std.proofs.Common.{◌≡◌, ◌∷◌, false, Some, None, sym, ap, ◌∙◌, subst, cond}
use Rattle.std.specs.Option.{option_map}
use Rattle.std.specs.HashMap.{get}
use Rattle.std.specs.List.{list_any}
use Rattle.my_statements.specs.Cache.{evicted, has_id, has_query, held, stmt_of, text_of, with_first}
use Rattle.my_statements.specs.Indexed.{IsIndexed, Finds, list_of}
use Rattle.my_statements.proofs.Apart.{same_text}
use Rattle.my_statements.proofs.Steps.{displaced-as, displaced-is, finds-again, finds-put, last-is, nothing-out, one-out, put-as, put-indexed, put-out, put-view}
use Rattle.my_statements.proofs.cache.StmtCache.put.Goals as goal

pub invariant_of-self-in-Ok-None : goal.invariant_of-self-in-Ok-None
invariant_of-self-in-Ok-None c =
    let i = c.self.inside in
    let h = held (text_of c.args.query) (stmt_of c.args.stmt) in
    let made : c.new.result ≡ h = c.new.ensures ∙ ap (λ t. held t (stmt_of c.args.stmt)) c.new-query.ensures in
    let id : c.deref.result.now.id ≡ h.stmt.id = ap (λ s. s.id) c.deref.ensures in
    let number : list_any (has_id h.stmt.id) (list_of i.entries) ≡ false = subst (λ v. list_any (has_id h.stmt.id) v.list ≡ false) (sym c.self.view_is) c.requires.id in
    let text : list_any (has_query h.query) (list_of i.entries) ≡ false = subst (λ v. list_any (has_query h.query) v.list ≡ false) (sym c.self.view_is) c.requires.query in
    let found : Finds c.insert.new.self (h ∷ list_of i.entries)
    = finds-put h (list_of i.entries) i.ids c.insert.new.self c.in_ok-share.field-0 c.deref.result.now.id c.self.invariant.found (c.in_ok-share.ensures ∙ c.new-query.ensures) id c.in_ok-insert.ensures.updates.0 in
    let last = sym (displaced-is h i.entries c.self.invariant.numbered number) ∙ sym (displaced-as h c.new.result c.deref.result.now.id i.entries id made) ∙ sym c.in-Ok-None.ensures.old ∙ c.in-Ok-None.field-0-is in
    subst (λ e. IsIndexed e c.insert.new.self i.keeps) (sym (c.in-Ok-None.ensures.entries ∙ put-as h c.new.result c.deref.result.now.id i.entries id made))
    (put-indexed h i.entries i.ids c.insert.new.self i.keeps c.self.invariant c.if-not-self.false text number (nothing-out _ last) found)

pub invariant_of-self-in-Ok-Some : goal.invariant_of-self-in-Ok-Some
invariant_of-self-in-Ok-Some c =
    let i = c.self.inside in
    let h = held (text_of c.args.query) (stmt_of c.args.stmt) in
    let made : c.new.result ≡ h = c.new.ensures ∙ ap (λ t. held t (stmt_of c.args.stmt)) c.new-query.ensures in
    let id : c.deref.result.now.id ≡ h.stmt.id = ap (λ s. s.id) c.deref.ensures in
    let number : list_any (has_id h.stmt.id) (list_of i.entries) ≡ false = subst (λ v. list_any (has_id h.stmt.id) v.list ≡ false) (sym c.self.view_is) c.requires.id in
    let text : list_any (has_query h.query) (list_of i.entries) ≡ false = subst (λ v. list_any (has_query h.query) v.list ≡ false) (sym c.self.view_is) c.requires.query in
    let found : Finds c.insert.new.self (h ∷ list_of i.entries)
    = finds-put h (list_of i.entries) i.ids c.insert.new.self c.in_ok-share.field-0 c.deref.result.now.id c.self.invariant.found (c.in_ok-share.ensures ∙ c.new-query.ensures) id c.in_ok-insert.ensures.updates.0 in
    let last = sym (displaced-is h i.entries c.self.invariant.numbered number) ∙ sym (displaced-as h c.new.result c.deref.result.now.id i.entries id made) ∙ sym c.in-Ok-Some.ensures.old ∙ c.in-Ok-Some.field-0-is in
    let gone : c.as_slice.result.now ≡ c.in-Ok-Some.last.query = c.as_slice.ensures ∙ c.into_parts-query.ensures.query in
    subst (λ e. IsIndexed e c.remove.new.self i.keeps) (sym (c.in-Ok-Some.ensures.entries ∙ put-as h c.new.result c.deref.result.now.id i.entries id made))
    (put-out h c.in-Ok-Some.last i.entries i.ids c.insert.new.self c.remove.new.self i.keeps c.self.invariant c.if-not-self.false text number (one-out _ _ last) found
    (λ q. c.remove.ensures.updates.0 q ∙ ap (λ t. cond (same_text t q) None (get same_text c.insert.new.self q)) gone))

pub returns-in-Ok-None-clause-ok : goal.returns-in-Ok-None-clause-ok
returns-in-Ok-None-clause-ok c =
    let i = c.self.inside in
    let h = held (text_of c.args.query) (stmt_of c.args.stmt) in
    let made : c.new.result ≡ h = c.new.ensures ∙ ap (λ t. held t (stmt_of c.args.stmt)) c.new-query.ensures in
    let id : c.deref.result.now.id ≡ h.stmt.id = ap (λ s. s.id) c.deref.ensures in
    let number : list_any (has_id h.stmt.id) (list_of i.entries) ≡ false = subst (λ v. list_any (has_id h.stmt.id) v.list ≡ false) (sym c.self.view_is) c.requires.id in
    rw (c.in-Ok-None.ensures.entries ∙ put-as h c.new.result c.deref.result.now.id i.entries id made)
    (put-view h i.entries i.keeps c.self.invariant.numbered c.if-not-self.false c.self.invariant.some number ∙ ap (with_first h) c.self.view_is)

pub returns-in-Ok-Some-clause-ok : goal.returns-in-Ok-Some-clause-ok
returns-in-Ok-Some-clause-ok c =
    let i = c.self.inside in
    let h = held (text_of c.args.query) (stmt_of c.args.stmt) in
    let made : c.new.result ≡ h = c.new.ensures ∙ ap (λ t. held t (stmt_of c.args.stmt)) c.new-query.ensures in
    let id : c.deref.result.now.id ≡ h.stmt.id = ap (λ s. s.id) c.deref.ensures in
    let number : list_any (has_id h.stmt.id) (list_of i.entries) ≡ false = subst (λ v. list_any (has_id h.stmt.id) v.list ≡ false) (sym c.self.view_is) c.requires.id in
    rw (c.in-Ok-Some.ensures.entries ∙ put-as h c.new.result c.deref.result.now.id i.entries id made)
    (put-view h i.entries i.keeps c.self.invariant.numbered c.if-not-self.false c.self.invariant.some number ∙ ap (with_first h) c.self.view_is)

pub returns-in-Ok-None-clause-evicted : goal.returns-in-Ok-None-clause-evicted
returns-in-Ok-None-clause-evicted c =
    let i = c.self.inside in
    let h = held (text_of c.args.query) (stmt_of c.args.stmt) in
    let made : c.new.result ≡ h = c.new.ensures ∙ ap (λ t. held t (stmt_of c.args.stmt)) c.new-query.ensures in
    let id : c.deref.result.now.id ≡ h.stmt.id = ap (λ s. s.id) c.deref.ensures in
    let number : list_any (has_id h.stmt.id) (list_of i.entries) ≡ false = subst (λ v. list_any (has_id h.stmt.id) v.list ≡ false) (sym c.self.view_is) c.requires.id in
    let last = sym (displaced-is h i.entries c.self.invariant.numbered number) ∙ sym (displaced-as h c.new.result c.deref.result.now.id i.entries id made) ∙ sym c.in-Ok-None.ensures.old ∙ c.in-Ok-None.field-0-is in
    ap (option_map (λ g. g.stmt)) (sym (nothing-out _ last) ∙ sym (last-is (list_of i.entries) i.entries.cap i.keeps c.if-not-self.false c.self.invariant.some))
    ∙ ap evicted c.self.view_is

pub returns-in-Ok-Some-clause-evicted : goal.returns-in-Ok-Some-clause-evicted
returns-in-Ok-Some-clause-evicted c =
    let i = c.self.inside in
    let h = held (text_of c.args.query) (stmt_of c.args.stmt) in
    let made : c.new.result ≡ h = c.new.ensures ∙ ap (λ t. held t (stmt_of c.args.stmt)) c.new-query.ensures in
    let id : c.deref.result.now.id ≡ h.stmt.id = ap (λ s. s.id) c.deref.ensures in
    let number : list_any (has_id h.stmt.id) (list_of i.entries) ≡ false = subst (λ v. list_any (has_id h.stmt.id) v.list ≡ false) (sym c.self.view_is) c.requires.id in
    let last = sym (displaced-is h i.entries c.self.invariant.numbered number) ∙ sym (displaced-as h c.new.result c.deref.result.now.id i.entries id made) ∙ sym c.in-Ok-Some.ensures.old ∙ c.in-Ok-Some.field-0-is in
    ap Some c.into_parts-query.ensures.stmt
    ∙ ap (option_map (λ g. g.stmt)) (sym (one-out _ _ last) ∙ sym (last-is (list_of i.entries) i.entries.cap i.keeps c.if-not-self.false c.self.invariant.some))
    ∙ ap evicted c.self.view_is

pub invariant_of-self-in-Err : goal.invariant_of-self-in-Err
invariant_of-self-in-Err c =
    let i = c.self.inside in
    let h = held (text_of c.args.query) (stmt_of c.args.stmt) in
    let made : c.new.result ≡ h = c.new.ensures ∙ ap (λ t. held t (stmt_of c.args.stmt)) c.new-query.ensures in
    let id : c.deref.result.now.id ≡ h.stmt.id = ap (λ s. s.id) c.deref.ensures in
    let number : list_any (has_id h.stmt.id) (list_of i.entries) ≡ false = subst (λ v. list_any (has_id h.stmt.id) v.list ≡ false) (sym c.self.view_is) c.requires.id in
    let text : list_any (has_query h.query) (list_of i.entries) ≡ false = subst (λ v. list_any (has_query h.query) v.list ≡ false) (sym c.self.view_is) c.requires.query in
    let found : Finds c.insert.new.self (h ∷ list_of i.entries)
    = finds-put h (list_of i.entries) i.ids c.insert.new.self c.in_ok-share.field-0 c.deref.result.now.id c.self.invariant.found (c.in_ok-share.ensures ∙ c.new-query.ensures) id c.in_ok-insert.ensures.updates.0 in
    let back : c.in-Err.failed.value.1 ≡ h = ap (λ p. p.1) c.in-Err.ensures.value_returned ∙ made in
    let gone : c.as_slice-in-Err.result.now ≡ h.query = c.as_slice-in-Err.ensures ∙ c.query-in-Err.ensures ∙ ap (λ v. v.query) back in
    subst (λ e. IsIndexed e c.remove-in-Err.new.self i.keeps) (sym c.in-Err.ensures.err)
    (record {
      numbered = c.self.invariant.numbered;
      apart = c.self.invariant.apart;
      few = c.self.invariant.few;
      some = c.self.invariant.some;
      found = finds-again h (list_of i.entries) i.ids c.insert.new.self c.remove-in-Err.new.self c.self.invariant.apart text number found
          (λ q. c.remove-in-Err.ensures.updates.0 q ∙ ap (λ t. cond (same_text t q) None (get same_text c.insert.new.self q)) gone);
    })
