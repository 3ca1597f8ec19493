-- The options of a text, by the definitions of URLs (the URL Standard): its host, port, user,
-- password, first segment of the path, and query.
use Rattle.std.specs.Prelude.{ℕ, ◌==◌, ◌||◌, Bool, false, not, List, [], take, drop, codes, bytes_eq, nat_lt, slice_index, Option, Some, None, unwrap_or, option_map, Result, Ok, Err, if◌then◌else◌}
use Rattle.std.specs.List.{position_or_len}
use Rattle.std.specs.Str.Lossy.{utf8_lossy}
use Rattle.percent_encoding.specs.Percent.{percent_decode}
use Rattle.form_urlencoded.specs.Form.{raw_pairs}
use Rattle.url.specs.Input.{is_empty}
use Rattle.url.specs.Host.{host_text}
use Rattle.url.specs.Parts.{Parts, has_host, nonempty_host}
use Rattle.url.specs.Parser.{parse_url}
use Rattle.my_opts_parts.specs.declared.error.UrlError.{UrlError}
use Rattle.my_opts_parts.specs.declared.error.UrlError.TheVariants.{FeatureRequired, Invalid, InvalidPoolConstraints, Parse, UnsupportedScheme}
use Rattle.my_opts.specs.declared.query.Gathered.{Gathered}
use Rattle.my_opts.specs.Opts.{OptsView, default_opts}
use Rattle.my_opts_parts.specs.Pool.{Bounds, default_pool}
use Rattle.my_opts.specs.Query.{after_pairs, and_then}

-- percent-encoded bytes as text, with a replacement for what is no UTF-8
abbrev pub decoded : List ℕ → List ℕ
decoded bytes = utf8_lossy (percent_decode bytes)

-- the bytes, where there are some
abbrev pub unless_empty : List ℕ → Option (List ℕ)
unless_empty bytes = if is_empty bytes then None else Some bytes

-- the text before the next slash
abbrev pub before_slash : List ℕ → List ℕ
before_slash rest = take (position_or_len (λ b. b == 47) rest) rest

-- the first segment of a path, where it is not empty
abbrev pub first_segment : List ℕ → Option (List ℕ)
first_segment path = if slice_index path 0 == 47 then unless_empty (before_slash (drop 1 path)) else None

-- a URL that can give options: with a host, and the scheme `mysql`
abbrev pub usable : Parts → Result Parts UrlError
usable url =
    if not (has_host url) || bytes_eq url.scheme (codes "file") then Err Invalid
    else (if bytes_eq url.scheme (codes "mysql") then Ok url else Err (UnsupportedScheme url.scheme))

-- a text that is a URL, where it can give options
abbrev pub usable_parsed : {E : Type 0} → Result Parts E → Result Parts UrlError
usable_parsed (Ok url) = usable url
usable_parsed (Err e) = Err Parse

-- the URL of a text, where it can give options
abbrev pub url_of : List ℕ → Result Parts UrlError
url_of text = usable_parsed (parse_url None text)

-- what a URL sets before its query is read
abbrev pub begun : Parts → Gathered
begun url = record {
  builder = record default_opts {
    ip_or_hostname = unwrap_or (option_map host_text (nonempty_host url)) [];
    tcp_port = unwrap_or url.port 3306;
    user = option_map decoded (unless_empty url.username);
    pass = option_map decoded (unless_empty url.password);
    db_name = option_map decoded (first_segment url.path);
  };
  pool = default_pool;
  pool_min = 10;
  pool_max = 100;
  require_ssl = false;
}

-- what a URL's query sets
abbrev pub gathered : Parts → Result Gathered UrlError
gathered url = after_pairs (raw_pairs (unwrap_or url.query [])) (begun url)

-- the bounds of a pool; a pool that can't be is refused, and then TLS is
abbrev pub allowed_bounds : ℕ → ℕ → Bool → Result Bounds UrlError
allowed_bounds min max require_ssl =
    if nat_lt max min || max == 0 then Err (InvalidPoolConstraints min max)
    else (if require_ssl then Err (FeatureRequired (codes "tls") (codes "require_ssl"))
    else Ok (record { min = min; max = max }))

-- the options that were gathered, with their pool
abbrev pub finished : Gathered → Result OptsView UrlError
finished g =
    and_then (allowed_bounds g.pool_min g.pool_max g.require_ssl)
    (λ bounds. Ok (record g.builder { pool_opts = record g.pool { constraints = bounds } }))

-- the options of a text, or why it gives none
abbrev pub options_of : List ℕ → Result OptsView UrlError
options_of text = and_then (and_then (url_of text) gathered) finished
