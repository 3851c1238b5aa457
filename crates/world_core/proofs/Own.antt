-- Which landing or completion is a connection's own: that of a CDC message under the token that its end was offered.
use Rattle.std.proofs.Common.{◌≡◌, ◌∙◌, ◌==◌, ℕ, ◌+◌, ◌-◌, ◌≤◌, ◌<◌, Bool, true, false, if◌then◌else◌, List, [], ◌∷◌, ◌++◌, length, take, drop, refl, ap, sym, ◌&&◌, true≢false, arith, eqb-true, eq-eqb, length-append}
use Rattle.std.specs.Prelude.{Option, Some, None, is_some, unwrap_or, option_map}
use Rattle.smc_num.specs.declared.Side.{Side}
use Rattle.smc_num.specs.declared.Side.TheVariants.{A, B}
use Rattle.smc_num.specs.declared.LinkId.{LinkId}
use Rattle.smc_num.specs.Names.{other, same_side}
use Rattle.cdc_wire.specs.declared.CdcMessage.{CdcMessage}
use Rattle.pipe_model.specs.declared.setup.Setup.{Setup}
use Rattle.pipe_model.specs.declared.post.Post.{Post}
use Rattle.pipe_model.specs.declared.post.Post.TheVariants.{Write, Cdc, Llc, Clc}
use Rattle.pipe_model.specs.declared.post.PostRef.{PostRef}
use Rattle.pipe_model.specs.declared.entry.Entry.{Entry}
use Rattle.pipe_model.specs.declared.sent.Sent.{Sent}
use Rattle.pipe_model.specs.Words.{passes}
use Rattle.pipe_model.specs.History.{Offered, offered, post_at, is_cdc}
use Rattle.pipe_model.specs.Ends.{Half, to_complete}
use Rattle.pipe_model.specs.Pipe.{Terms, Item, Lands, Completes, half, pipe, step}
use Rattle.pipe_model.specs.Parts.{IsMarked}
use Rattle.pipe_model.specs.Connections.{group_on, if_own}
use Rattle.world_core.specs.Wired.{cdc_under, if_meant, returning, HasGone, EachItem, passes_by}
use Rattle.world_core.specs.Agreement.{HasOffers, IsElse}
use Rattle.world_core.proofs.Growth.{gone-on, lands-one, completes-one}
use Rattle.world_core.proofs.Idle.{all-passed-by}
use Rattle.world_core.proofs.Carried.{returning-same}
use Rattle.world_core.proofs.Feasible.{returning-head, has-returning}
use Rattle.world_core.proofs.EntryItems.{is_fate_or_up, fate-or-up-passes, each-more}

-- by the offer
pub own-none : (item : Item) (x : Side) (s : ℕ) (at : Option PostRef) (past : List Entry) → offered (other x) s past ≡ None → if_own item x s at past ≡ []
own-none item x s None past e = refl
own-none item x s (Some at) past e = ap (λ o. if passes (λ (q : Offered). passes (is_cdc x q.offer.token) (post_at at past)) o then item ∷ [] else []) e

pub own-some : (item : Item) (x : Side) (s : ℕ) (at : PostRef) (past : List Entry) (o : Offered) (post : Post) → offered (other x) s past ≡ Some o → post_at at past ≡ Some post →
    if_own item x s (Some at) past ≡ (if is_cdc x o.offer.token post then item ∷ [] else [])
own-some item x s at past o post e f =
    ap (λ q. if passes (λ (r : Offered). passes (is_cdc x r.offer.token) (post_at at past)) q then item ∷ [] else []) e ∙ ap (λ p. if passes (is_cdc x o.offer.token) p then item ∷ [] else []) f

-- a post is a side's CDC message under a token, or it is not
pub data IsOrNot (x : Side) (token : ℕ) (post : Post) : Type 0 where
  Is : (m : CdcMessage) → is_cdc x token post ≡ true → cdc_under x token post ≡ Some m → IsOrNot x token post
  IsNot : is_cdc x token post ≡ false → cdc_under x token post ≡ None → IsOrNot x token post

pub is-or-not : (x : Side) (token : ℕ) (post : Post) → IsOrNot x token post
is-or-not x token (Write from link key address len) = IsNot refl refl
is-or-not x token (Llc from link m) = IsNot refl refl
is-or-not x token (Clc from s link m) = IsNot refl refl
is-or-not x token (Cdc from link m) = by (same_side x from && (token == m.token)) refl
  where
    by : (b : Bool) → (same_side x from && (token == m.token)) ≡ b → IsOrNot x token (Cdc from link m)
    by true e = Is m e (ap (λ c. if_meant c m) e)
    by false e = IsNot e (ap (λ c. if_meant c m) e)

-- the group of an offered connection is the one group
abbrev group_by : Option Offered → ℕ
group_by q = unwrap_or (option_map (λ (link : LinkId). link.group) (option_map (λ (o : Offered). o.link) q)) 0

pub grouped : (setup : Setup) (past : List Entry) → HasOffers setup past → (x : Side) (s : ℕ) (o : Offered) → offered x s past ≡ Some o → group_on s past ≡ 1
grouped setup past h B s o e = ap (λ q. group_by q) e ∙ ap (λ (link : LinkId). link.group) (h.link B s o e)
grouped setup past h A s o e = by (offered B s past) refl
  where
    by : (q : Option Offered) → offered B s past ≡ q → group_on s past ≡ 1
    by None f = absurd (true≢false (sym (ap (λ r. is_some r) (sym (h.answer s f) ∙ e))))
    by (Some r) f = ap (λ q. group_by q) f ∙ ap (λ (link : LinkId). link.group) (h.link B s r f)

-- other sockets have other tokens
pub tokens-else : (setup : Setup) (past : List Entry) → HasOffers setup past → (x : Side) (s : ℕ) (o : Offered) → offered x s past ≡ Some o → (t : ℕ) → (t == s) ≡ false → IsElse o.offer.token (offered x t past)
tokens-else setup past h x s o e t d = by (offered x t past) refl
  where
    by : (q : Option Offered) → offered x t past ≡ q → IsElse o.offer.token q
    by None f = tt
    by (Some r) f = test (o.offer.token == r.offer.token) refl
      where
        test : (b : Bool) → (o.offer.token == r.offer.token) ≡ b → b ≡ false
        test true g = absurd (true≢false (sym (eq-eqb t s (sym (h.tokens x s t o r e f (eqb-true o.offer.token r.offer.token g)))) ∙ d))
        test false g = refl

-- how far an end is after news that land or complete one of its messages
module _ (t : Terms) (x : Side) (below items : List Item) (calm : EachItem is_fate_or_up below) where
  pub gone-below : HasGone (half x (pipe t items)) (half x (pipe t (below ++ items))) (half x (pipe t items)).landed (half x (pipe t items)).completed
  gone-below = all-passed-by t x below items (each-more is_fate_or_up (passes_by x) (fate-or-up-passes x) below calm)

  pub gone-lands : HasGone (half x (pipe t items)) (half x (pipe t ((Lands x ∷ below) ++ items))) ((half x (pipe t items)).landed + 1) (half x (pipe t items)).completed
  gone-lands =
      let g = gone-below in
      let m = gone-on (half x (pipe t items)) (half x (pipe t (below ++ items))) (half x (step t (Lands x) (pipe t (below ++ items)))) _ _ _ _ g (lands-one t x (pipe t (below ++ items))) in
      record { landed_is = m.landed_is ∙ ap (λ n. n + 1) g.landed_is; completed_is = m.completed_is ∙ g.completed_is; more = m.more; sent_is = m.sent_is }

  -- what it had under way it still has
  pub room-below : (half x (pipe t items)).landed + 1 ≤ length (half x (pipe t items)).sent → (half x (pipe t (below ++ items))).landed + 1 ≤ length (half x (pipe t (below ++ items))).sent
  room-below l =
      let g = gone-below in
      let n : length (half x (pipe t (below ++ items))).sent ≡ length (half x (pipe t items)).sent + length g.more = ap (λ ms. length ms) g.sent_is ∙ length-append (half x (pipe t items)).sent g.more in
      omega (arith, n, l, g.landed_is)

  pub later-below : (half x (pipe t items)).completed < (half x (pipe t items)).landed → (half x (pipe t (below ++ items))).completed < (half x (pipe t (below ++ items))).landed
  later-below l = let g = gone-below in omega (arith, l, g.landed_is, g.completed_is)

  returning-below : IsMarked (half x (pipe t items)) → returning (half x (pipe t (below ++ items))) ≡ returning (half x (pipe t items))
  returning-below m =
      let g = gone-below in
      let h : Half = half x (pipe t items) in
      let k : Half = half x (pipe t (below ++ items)) in
      ap (λ n. take (n - k.completed) (drop k.completed k.sent)) g.landed_is ∙ ap (λ n. take (h.landed - n) (drop n k.sent)) g.completed_is ∙ ap (λ ms. take (h.landed - h.completed) (drop h.completed ms)) g.sent_is ∙
      returning-same h.sent g.more h.landed h.completed m.landed_sent m.completed_landed

  pub gone-completes : (m : Sent) (rest : List Sent) → IsMarked (half x (pipe t items)) → returning (half x (pipe t items)) ≡ m ∷ rest →
      HasGone (half x (pipe t items)) (half x (pipe t ((Completes x ∷ below) ++ items))) (half x (pipe t items)).landed ((half x (pipe t items)).completed + 1)
  gone-completes m rest mark e =
      let g = gone-below in
      let k : Half = half x (pipe t (below ++ items)) in
      let q = gone-on (half x (pipe t items)) k (half x (step t (Completes x) (pipe t (below ++ items)))) _ _ _ _ g
      (completes-one t x (pipe t (below ++ items)) m (returning-head (k.landed - k.completed) (to_complete k) rest m (returning-below mark ∙ e)) (later-below (has-returning (half x (pipe t items)) m rest e))) in
      record { landed_is = q.landed_is ∙ g.landed_is; completed_is = q.completed_is ∙ ap (λ n. n + 1) g.completed_is; more = q.more; sent_is = q.sent_is }
