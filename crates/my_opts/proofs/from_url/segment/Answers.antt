use Rattle.std.proofs.Common.{◌≡◌, ◌≢◌, ℕ, List, [], ◌∷◌, None, refl, sym, ap, ◌∙◌, ne_eqb}
use Rattle.my_opts.specs.Url.{first_segment}
use Rattle.my_opts.proofs.from_url.segment.Goals as goal

-- a path that doesn't begin with a slash has no first segment
no_segment : (path : List ℕ) → ((rest : List ℕ) → path ≢ 47 ∷ rest) → first_segment path ≡ None
no_segment [] h = refl
no_segment (b ∷ rest) h = rw (ne_eqb b 47 (λ e. h rest (ap (λ z. z ∷ rest) e))) refl

pub returns-in-None : goal.returns-in-None
unfolding lib.Utf8.encode
returns-in-None c =
    sym (ap first_segment (sym c.path.ensures.value) ∙ no_segment c.path.result.now c.in-None.ensures.cases)
