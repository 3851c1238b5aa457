-- What posts say on the sockets: those of the connections and of the flows say nothing, and begin no group.
use Rattle.std.proofs.Common.{List, [], filter, refl, sym, true≢false, ℕ, ◌++◌, ◌∷◌, ◌≡◌}
use Rattle.pipe_model.specs.declared.post.Post.TheVariants.{Clc, Write}
use Rattle.std.specs.Prelude.{filter_map}
use Rattle.pipe_model.specs.Posts.{begins_group_in}
use Rattle.history_laws.specs.Words.{A, B, Cdc, Llc, Post, Side, clc_in, offer_in}
use Rattle.history_laws.specs.Posts.{AreData}

-- nothing on a socket
abbrev pub AreWired : List Post → Type 0
AreWired [] = Unit {0}
AreWired (Write from link key address len ∷ ps) = AreWired ps
AreWired (Cdc from link m ∷ ps) = AreWired ps
AreWired (Llc from link m ∷ ps) = AreWired ps
AreWired (Clc from s link m ∷ ps) = ⊥

pub data-wired : (ps : List Post) → AreData ps → AreWired ps
data-wired [] d = tt
data-wired (Write from link key address len ∷ ps) d = data-wired ps d.1
data-wired (Cdc from link m ∷ ps) d = data-wired ps d.1
data-wired (Llc from link m ∷ ps) d = absurd (true≢false (sym d.0))
data-wired (Clc from s link m ∷ ps) d = absurd (true≢false (sym d.0))

pub wired-append : (ps qs : List Post) → AreWired ps → AreWired qs → AreWired (ps ++ qs)
wired-append [] qs d e = e
wired-append (Write from link key address len ∷ ps) qs d e = wired-append ps qs d e
wired-append (Cdc from link m ∷ ps) qs d e = wired-append ps qs d e
wired-append (Llc from link m ∷ ps) qs d e = wired-append ps qs d e
wired-append (Clc from s link m ∷ ps) qs d e = absurd d

-- they say nothing
pub says-nothing : (x : Side) (s : ℕ) (ps : List Post) → AreWired ps → filter_map (clc_in x s) ps ≡ []
says-nothing x s [] w = refl
says-nothing x s (Write from link key address len ∷ ps) w = says-nothing x s ps w
says-nothing x s (Cdc from link m ∷ ps) w = says-nothing x s ps w
says-nothing x s (Llc from link m ∷ ps) w = says-nothing x s ps w
says-nothing x s (Clc from t link m ∷ ps) w = absurd w

-- they offer nothing
pub offers-nothing : (x : Side) (s : ℕ) (ps : List Post) → AreWired ps → filter_map (offer_in x s) ps ≡ []
offers-nothing x s [] w = refl
offers-nothing A s (Write from link key address len ∷ ps) w = offers-nothing A s ps w
offers-nothing A s (Cdc from link m ∷ ps) w = offers-nothing A s ps w
offers-nothing A s (Llc from link m ∷ ps) w = offers-nothing A s ps w
offers-nothing B s (Write from link key address len ∷ ps) w = offers-nothing B s ps w
offers-nothing B s (Cdc from link m ∷ ps) w = offers-nothing B s ps w
offers-nothing B s (Llc from link m ∷ ps) w = offers-nothing B s ps w
offers-nothing x s (Clc from t link m ∷ ps) w = absurd w

-- they begin no group
pub begins-nothing : (ps : List Post) → AreWired ps → filter begins_group_in ps ≡ []
begins-nothing [] w = refl
begins-nothing (Write from link key address len ∷ ps) w = begins-nothing ps w
begins-nothing (Cdc from link m ∷ ps) w = begins-nothing ps w
begins-nothing (Llc from link m ∷ ps) w = begins-nothing ps w
begins-nothing (Clc from t link m ∷ ps) w = absurd w
