-- What a journal tells leads to the pool's state, event by event.
use Rattle.std.proofs.Common.{◌≡◌, true, Option, Some, None, List, [], ◌∷◌, ◌++◌, sym, ap, ◌∙◌, subst, inl, inr}
use Rattle.my_pool_core.specs.declared.event.PoolEvent.{PoolEvent}
use Rattle.my_pool_core.specs.State.{State}
use Rattle.my_pool_core.specs.Steps.{may, step}
use Rattle.my_pool_core.proofs.Replaying.{after-more, may-more}
use Rattle.my_pool_store.specs.Noted.{IsNoted, Leads, Replays}

pub replays-on : (start s : State) (e : PoolEvent) (told new : Option (List PoolEvent)) → Replays start told s → may s e ≡ true → IsNoted told e new → Replays start new (step s e)
replays-on start s e None new r m n = subst (λ o. Replays start o (step s e)) (sym n) tt
replays-on start s e (Some es) new r m (inl n) = subst (λ o. Replays start o (step s e)) (sym n) tt
replays-on start s e (Some es) new r m (inr n) =
    let on : Leads start (es ++ e ∷ []) (step s e) = record {
      all = may-more start es e r.all (ap (λ u. may u e) r.end ∙ m);
      end = after-more start es e ∙ ap (λ u. step u e) r.end;
    } in
    subst (λ o. Replays start o (step s e)) (sym n) on
