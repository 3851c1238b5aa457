-- Which landing or completion is a connection's own: that of a CDC message under the token that its end was offered.
use Rattle.std.proofs.Common.{Bool, List, [], ap, false, if◌then◌else◌, refl, true, ℕ, ◌&&◌, ◌==◌, ◌∙◌, ◌∷◌, ◌≡◌}
use Rattle.std.specs.Prelude.{None, Option, Some, option_map, unwrap_or}
use Rattle.pipe_model.specs.declared.post.Post.TheVariants.{Clc, Write}
use Rattle.history_laws.specs.Words.{Cdc, CdcMessage, Entry, Item, LinkId, Llc, Offered, Post, PostRef, Side, if_own, is_cdc, offered, other, passes, post_at, same_side}
use Rattle.history_laws.specs.Wires.{cdc_under, if_meant}

-- by the offer
pub own-none : (item : Item) (x : Side) (s : ℕ) (at : Option PostRef) (past : List Entry) → offered (other x) s past ≡ None → if_own item x s at past ≡ []
own-none item x s None past e = refl
own-none item x s (Some at) past e = ap (λ o. if passes (λ (q : Offered). passes (is_cdc x q.offer.token) (post_at at past)) o then item ∷ [] else []) e

pub own-some : (item : Item) (x : Side) (s : ℕ) (at : PostRef) (past : List Entry) (o : Offered) (post : Post) → offered (other x) s past ≡ Some o → post_at at past ≡ Some post →
    if_own item x s (Some at) past ≡ (if is_cdc x o.offer.token post then item ∷ [] else [])
own-some item x s at past o post e f =
    ap (λ q. if passes (λ (r : Offered). passes (is_cdc x r.offer.token) (post_at at past)) q then item ∷ [] else []) e ∙ ap (λ p. if passes (is_cdc x o.offer.token) p then item ∷ [] else []) f

-- a post is a side's CDC message under a token, or it is not
pub data IsOrNot (x : Side) (token : ℕ) (post : Post) : Type 0 where
  Is : (m : CdcMessage) → is_cdc x token post ≡ true → cdc_under x token post ≡ Some m → IsOrNot x token post
  IsNot : is_cdc x token post ≡ false → cdc_under x token post ≡ None → IsOrNot x token post

pub is-or-not : (x : Side) (token : ℕ) (post : Post) → IsOrNot x token post
is-or-not x token (Write from link key address len) = IsNot refl refl
is-or-not x token (Llc from link m) = IsNot refl refl
is-or-not x token (Clc from s link m) = IsNot refl refl
is-or-not x token (Cdc from link m) = by (same_side x from && (token == m.token)) refl
  where
    by : (b : Bool) → (same_side x from && (token == m.token)) ≡ b → IsOrNot x token (Cdc from link m)
    by true e = Is m e (ap (λ c. if_meant c m) e)
    by false e = IsNot e (ap (λ c. if_meant c m) e)

-- the group of an offered connection
abbrev pub group_by : Option Offered → ℕ
group_by q = unwrap_or (option_map (λ (link : LinkId). link.group) (option_map (λ (o : Offered). o.link) q)) 0
