-- What a URL's pairs gather is what the setters make of a builder.
use Rattle.std.proofs.Common.{◌≡◌, ℕ, ◌∙◌, ◌||◌, ◌==◌, nat_lt, codes, unwrap_or, Bool, true, false, List, [], ◌∷◌, Option, Some, None, Result, Ok, Err, if◌then◌else◌, refl, sym, ap, subst}
use Rattle.form_urlencoded.specs.Form.{raw_pairs}
use Rattle.my_opts_parts.specs.declared.error.UrlError.TheVariants.{FeatureRequired, InvalidPoolConstraints}
use Rattle.my_opts_parts.specs.declared.keys.TruthOption.{TruthOption}
use Rattle.my_opts_parts.specs.declared.keys.TruthOption.TheVariants.{TcpNodelay, PreferSocket, SecureAuth, ClientFoundRows, EnableCleartextPlugin, ResetConnection, RequireSsl, VerifyCa, VerifyIdentity, BuiltInRoots}
use Rattle.my_opts_parts.specs.declared.keys.NumberOption.{NumberOption}
use Rattle.my_opts_parts.specs.declared.keys.NumberOption.TheVariants.{PoolMin, PoolMax, PoolMaxWaiting, InactiveConnectionTtl, TtlCheckInterval, AbsConnTtl, AbsConnTtlJitter, ConnTtl, TcpKeepalive, StmtCacheSize, MaxAllowedPacket, WaitTimeout}
use Rattle.my_opts_parts.specs.declared.keys.Row.{Row}
use Rattle.my_opts_parts.specs.declared.keys.Row.TheVariants.{Truth, Whole32, Whole64, SocketPath, Compression}
use Rattle.my_opts.specs.declared.query.Gathered.{Gathered}
use Rattle.my_opts.specs.Opts.{OptsView}
use Rattle.my_opts_parts.specs.Pool.{Bounds}
use Rattle.my_opts_parts.specs.Keys.{table, row_among}
use Rattle.my_opts.specs.Query.{text_pair, put_number, put_truth, set_or_refused, after_row, after_pair, after_pairs, and_then}
use Rattle.my_opts.specs.Url.{begun, gathered, allowed_bounds, finished}
use Rattle.my_frame.specs.Numeral.{whole_number}
use Rattle.my_opts.specs.Values.{truth}
use Rattle.my_opts.specs.Built.{set_number, set_truth, set_where_read, set_row, set_pairs, GivesWhatIsBuilt}

-- the options that what is gathered stands for
abbrev meant : Gathered → OptsView
meant g = record g.builder { pool_opts = record g.pool { constraints = record { min = g.pool_min; max = g.pool_max } } }

of_ok : {A E : Type 0} (x y : A) → ◌≡◌ {A = Result A E} (Ok x) (Ok y) → x ≡ y
of_ok x y same = cc same

number-set : (field : NumberOption) (n : ℕ) (g : Gathered) → meant (put_number field n g) ≡ set_number field n (meant g)
number-set PoolMin n g = refl
number-set PoolMax n g = refl
number-set PoolMaxWaiting n g = refl
number-set InactiveConnectionTtl n g = refl
number-set TtlCheckInterval n g = refl
number-set AbsConnTtl n g = refl
number-set AbsConnTtlJitter n g = refl
number-set ConnTtl n g = refl
number-set TcpKeepalive n g = refl
number-set StmtCacheSize n g = refl
number-set MaxAllowedPacket n g = refl
number-set WaitTimeout n g = refl

truth-set : (field : TruthOption) (b : Bool) (g : Gathered) → meant (put_truth field b g) ≡ set_truth field b (meant g)
truth-set TcpNodelay b g = refl
truth-set PreferSocket b g = refl
truth-set SecureAuth b g = refl
truth-set ClientFoundRows b g = refl
truth-set EnableCleartextPlugin b g = refl
truth-set ResetConnection b g = refl
truth-set RequireSsl b g = refl
truth-set VerifyCa b g = refl
truth-set VerifyIdentity b g = refl
truth-set BuiltInRoots b g = refl

value-set : {A : Type 0} (name value : List ℕ) (read : Option A) (put : A → Gathered → Gathered) (set : A → OptsView → OptsView) (g g' : Gathered)
    → ((x : A) → meant (put x g) ≡ set x (meant g)) → set_or_refused name value read put g ≡ Ok g' → meant g' ≡ set_where_read read set (meant g)
value-set name value (Some x) put set g g' same ok = ap meant (sym (of_ok (put x g) g' ok)) ∙ same x
value-set name value None put set g g' same ok = cc ok

row-set : (row : Option Row) (name value : List ℕ) (g g' : Gathered) → after_row row name value g ≡ Ok g' → meant g' ≡ set_row row value (meant g)
row-set None name value g g' ok = cc ok
row-set (Some (Truth field)) name value g g' ok = value-set name value (truth value) (put_truth field) (set_truth field) g g' (λ b. truth-set field b g) ok
row-set (Some (Whole32 field)) name value g g' ok = value-set name value (whole_number 32 value) (put_number field) (set_number field) g g' (λ n. number-set field n g) ok
row-set (Some (Whole64 field)) name value g g' ok = value-set name value (whole_number 64 value) (put_number field) (set_number field) g g' (λ n. number-set field n g) ok
row-set (Some SocketPath) name value g g' ok = ap meant (sym (of_ok _ g' ok))
row-set (Some Compression) name value g g' ok = cc ok

-- a step that is followed by one that succeeds has succeeded
both_ok : {A B E : Type 0} (r : Result A E) (next : A → Result B E) (y : B) → and_then r next ≡ Ok y → (x : A) × (r ≡ Ok x) × (next x ≡ Ok y)
both_ok (Ok x) next y ok = (x, refl, ok)
both_ok (Err e) next y ok = cc ok

pairs-set : (pairs : List (List ℕ × List ℕ)) (g g' : Gathered) → after_pairs pairs g ≡ Ok g' → meant g' ≡ set_pairs pairs (meant g)
pairs-set [] g g' ok = ap meant (sym (of_ok g g' ok))
pairs-set (pair ∷ pairs) g g' ok =
    let (h, first, rest) = both_ok (after_pair g (text_pair pair)) (after_pairs pairs) g' ok in
    pairs-set pairs h g' rest ∙ ap (set_pairs pairs) (row-set (row_among table (text_pair pair).0) (text_pair pair).0 (text_pair pair).1 g h first)

last_ok : {A E : Type 0} (s t : Bool) (e e' : E) (x y : A) → (if s then Err e else (if t then Err e' else Ok x)) ≡ Ok y → y ≡ x
last_ok true t e e' x y ok = cc ok
last_ok false true e e' x y ok = cc ok
last_ok false false e e' x y ok = cc ok

finish_ok : (g : Gathered) (opts : OptsView) → finished g ≡ Ok opts → opts ≡ meant g
finish_ok g opts ok =
    let with_bounds = (λ (bounds : Bounds). record g.builder { pool_opts = record g.pool { constraints = bounds } }) in
    let (bounds, allowed, end) = both_ok (allowed_bounds g.pool_min g.pool_max g.require_ssl) (λ (b : Bounds). Ok (with_bounds b)) opts ok in
    sym (of_ok (with_bounds bounds) opts end)
    ∙ ap with_bounds (last_ok (nat_lt g.pool_max g.pool_min || g.pool_max == 0) g.require_ssl (InvalidPoolConstraints g.pool_min g.pool_max)
    (FeatureRequired (codes "tls") (codes "require_ssl")) (record { min = g.pool_min; max = g.pool_max }) bounds allowed)

pub gives-built : (text : List ℕ) → GivesWhatIsBuilt text
gives-built text url opts at_url at_opts =
    let started : and_then (and_then (Ok url) gathered) finished ≡ Ok opts = subst (λ r. and_then (and_then r gathered) finished ≡ Ok opts) at_url at_opts in
    let (g, all, end) = both_ok (gathered url) finished opts started in
    finish_ok g opts end ∙ pairs-set (raw_pairs (unwrap_or url.query [])) (begun url) g all
