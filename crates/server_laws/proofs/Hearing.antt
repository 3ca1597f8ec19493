-- An exchange with several payloads more.
use Rattle.std.proofs.Common.{◌≡◌, ℕ, ◌≤◌, List, [], ◌∷◌, ◌++◌, length, true, false, Option, refl, sym, ap, ◌∙◌, append_assoc}
use Rattle.std.proofs.lemmas.List.{append-nil}
use Rattle.my_frame.specs.Chunks.{chunks, number_after_payload}
use Rattle.my_grammar.specs.declared.login.Login.{Login}
use Rattle.my_grammar.specs.declared.spot.Kind.{Kind}
use Rattle.my_grammar.specs.declared.spot.Kind.TheVariants as kinds
use Rattle.my_grammar.specs.Contexts.{is_bad}
use Rattle.my_grammar.specs.Kinds.{kind_there}
use Rattle.my_grammar.specs.Talk.{Talk, Fits, turns, number_of, server_bytes, context_of, described, limit_of, login_in, origin, secret_in}
use Rattle.my_grammar.specs.Growth.{grow, is_calm, number_next}
use Rattle.my_grammar.proofs.Growth.{any_login, grows, reads}
use Rattle.my_server.specs.Machine.{all_chunks}

-- the sequence id after these payloads
abbrev pub number_after_all : List (List ℕ) → ℕ → ℕ
number_after_all [] n = n
number_after_all (p ∷ ps) n = number_after_all ps (number_after_payload p n)

all_chunks-append : (ps qs : List (List ℕ)) (n : ℕ) → all_chunks (ps ++ qs) n ≡ all_chunks ps n ++ all_chunks qs (number_after_all ps n)
all_chunks-append [] qs n = refl
all_chunks-append (p ∷ ps) qs n =
    ap (λ x. chunks p n ++ x) (all_chunks-append ps qs (number_after_payload p n)) ∙ sym (append_assoc (chunks p n) _ _)

number_after_all-append : (ps qs : List (List ℕ)) (n : ℕ) → number_after_all (ps ++ qs) n ≡ number_after_all qs (number_after_all ps n)
number_after_all-append [] qs n = refl
number_after_all-append (p ∷ ps) qs n = number_after_all-append ps qs (number_after_payload p n)

-- The payloads make t the exchange u, and their packets follow the server's bytes.
pub record Heard (t : Talk) (ps : List (List ℕ)) (u : Talk) : Type 0 where
  pub fits : Fits u
  pub bytes : server_bytes (turns u) ≡ server_bytes (turns t) ++ all_chunks ps (number_of (turns t))
  pub number : number_of (turns u) ≡ number_after_all ps (number_of (turns t))
  pub origin_is : origin u ≡ origin t

pub heard_none : (t : Talk) → Fits t → Heard t [] t
heard_none t fits = record { fits = fits; bytes = sym (append-nil _); number = refl; origin_is = refl }

quiet_number : (login : Login) (secret : Option (List ℕ)) (k : Kind) (p : List ℕ) (n : ℕ) → is_calm k ≡ true → number_next login secret k p n ≡ number_after_payload p n
quiet_number login secret (kinds.Greets offer) p n i = absurd cc
quiet_number login secret (kinds.Asks ask) p n i = absurd cc
quiet_number login secret (kinds.Good status) p n i = refl
quiet_number login secret kinds.Failed p n i = refl
quiet_number login secret (kinds.Count columns) p n i = refl
quiet_number login secret kinds.Column p n i = refl
quiet_number login secret kinds.ColumnsDone p n i = refl
quiet_number login secret kinds.Row p n i = refl
quiet_number login secret (kinds.End status) p n i = refl
quiet_number login secret (kinds.Prepared params columns) p n i = refl
quiet_number login secret kinds.Parameter p n i = refl
quiet_number login secret kinds.Field p n i = refl
quiet_number login secret kinds.Bad p n i = refl

pub heard_one : (t : Talk) (k : Kind) (p : List ℕ) → kind_there (context_of t) (described t) p ≡ k → is_bad k ≡ false → is_calm k ≡ true → length p ≤ limit_of t → Fits t → Heard t (p ∷ []) (grow k t p)
heard_one t k p is good quiet short fits =
    let w = grows t k p is good short fits in
    let r = reads (login_in any_login t) (secret_in t) k p (turns t) in
    let e = w.turns_are any_login in
    record {
      fits = w.fits;
      bytes = ap server_bytes e ∙ r.server ∙ ap (λ x. server_bytes (turns t) ++ x) (sym (append-nil (chunks p (number_of (turns t)))));
      number = ap number_of e ∙ r.number ∙ quiet_number (login_in any_login t) (secret_in t) k p (number_of (turns t)) quiet;
      origin_is = w.origin_is;
    }

pub heard_then : (t u v : Talk) (ps qs : List (List ℕ)) → Heard t ps u → Heard u qs v → Heard t (ps ++ qs) v
heard_then t u v ps qs a b =
    let n = number_of (turns t) in
    record {
      fits = b.fits;
      bytes = b.bytes ∙ ap (λ x. x ++ all_chunks qs (number_of (turns u))) a.bytes ∙ append_assoc (server_bytes (turns t)) (all_chunks ps n) _ ∙ ap (λ x. server_bytes (turns t) ++ (all_chunks ps n ++ all_chunks qs x)) a.number ∙ ap (λ x. server_bytes (turns t) ++ x) (sym (all_chunks-append ps qs n));
      number = b.number ∙ ap (λ x. number_after_all qs x) a.number ∙ sym (number_after_all-append ps qs n);
      origin_is = b.origin_is ∙ a.origin_is;
    }
