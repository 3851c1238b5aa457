-- An entry that lands a post leads to the next world: writes and CDC messages move nothing here, CONFIRM LINK and its reply make the link live.
use Rattle.smc_num.specs.Links.{stands}
use Rattle.pipe_model.specs.Fabric.{lands, fabric}
use Rattle.pipe_model.specs.Wires.{landing}
use Rattle.std.proofs.Common.{◌≡◌, ap, cond, inl, inr, refl, subst, sym, ◌∙◌}
use Rattle.pipe_model.specs.declared.event.Event.TheVariants.{Deliver}
use Rattle.pipe_model.specs.declared.reply.Reply.TheVariants.{Landed, Dropped}
use Rattle.pipe_model.specs.declared.post.Post.TheVariants.{Write, Cdc, Llc, Clc}
use Rattle.pipe_model.specs.declared.post.Post.{Post}
use Rattle.smc_num.specs.declared.LinkPhase.TheVariants.{Pending}
use Rattle.pipe_model.specs.declared.entry.Entry.{Entry}
use Rattle.pipe_model.specs.declared.setup.Setup.{Setup}
use Rattle.smc_num.specs.declared.Side.{Side}
use Rattle.pipe_model.specs.Words.{passes}
use Rattle.std.specs.List.{cons_option}
use Rattle.smc_num.specs.declared.Side.TheVariants.{A, B}
use Rattle.pipe_model.specs.Fabric.{Fabric, act_of, is_latest}
use Rattle.smc_num.specs.Names.{head, same_link, same_side}
use Rattle.smc_num.specs.declared.LinkId.{LinkId}
use Rattle.std.specs.Prelude.{Bool, List, None, Some, [], drop, false, filter_map, if◌then◌else◌, not, option_and_then, option_map, true, ℕ, ◌&&◌, ◌==◌, ◌||◌, ◌∷◌, ◌⊎◌}
use Rattle.smc_num.specs.Links.{Known, link_at}
use Rattle.pipe_model.specs.Wires.{if_latest, is_dead, landing_on, some_reported, unlanded}
use Rattle.pipe_model.specs.declared.post.Placed.{Placed}
use Rattle.world_core.specs.OneLink.{Asking, Begun, IsAtStage, LiveAtA, LiveAtBoth, Made, NoLink, Stage, fabric_at, is_made, llc_in, llc_of, llc_waiting, the_known, the_link}
use Rattle.world_core.proofs.InHistory.{first-waiting-in}
use Rattle.world_core.proofs.Moves.{IsQuiet}
use Rattle.pipe_model.specs.History.{post_at}
use Rattle.world_core.proofs.QuietEvents.{entry-of, quiet-by}
use Rattle.world_core.proofs.Plain.{link-is, some-is}

-- the latest link of the slot is the only one
latest-of : (link : LinkId) (table : List Known) → (table ≡ []) ⊎ (table ≡ the_known Pending ∷ []) → passes (same_link link) (link_at link.slot table) ≡ true → same_link link the_link ≡ true
latest-of link table (inl e) h = let n : false ≡ true = ap (λ (ks : List Known). passes (same_link link) (link_at link.slot ks)) (sym e) ∙ h in cc
latest-of link table (inr e) h = by_test (1 == link.slot) (ap (λ (ks : List Known). passes (same_link link) (link_at link.slot ks)) (sym e) ∙ h)
  where
    by_test : (b : Bool) → passes (same_link link) (option_map (λ known. known.link) (cond b (Some (the_known Pending)) None)) ≡ true → same_link link the_link ≡ true
    by_test true g = g
    by_test false g = cc

latest-at : (stage : Stage) → ((fabric_at stage).latest ≡ []) ⊎ ((fabric_at stage).latest ≡ the_known Pending ∷ [])
latest-at NoLink = inl refl
latest-at (Begun s) = inl refl
latest-at (Made s) = inr refl
latest-at (Asking s qp) = inr refl
latest-at (LiveAtA s qp) = inr refl
latest-at (LiveAtBoth s) = inr refl

latest-is : (setup : Setup) (stage : Stage) (past : List Entry) → IsAtStage setup stage past → (link : LinkId) → is_latest link past ≡ true → same_link link the_link ≡ true
latest-is setup stage past at link e = latest-of link (fabric_at stage).latest (latest-at stage) (ap (λ (f : Fabric). passes (same_link link) (link_at link.slot f.latest)) (sym at.fabric_is) ∙ e)

-- the link is not dead
pub not-dead : (setup : Setup) (stage : Stage) (past : List Entry) → IsAtStage setup stage past → is_made stage ≡ true → is_dead the_link past ≡ false
not-dead setup stage past at made =
    ap (λ b. b || some_reported the_link past) at.uncut
    ∙ (ap (λ (f : Fabric). not (stands the_link f.a.table) || not (stands the_link f.b.table)) at.fabric_is ∙ by-stage stage made)
  where
    by-stage : (st : Stage) → is_made st ≡ true → (not (stands the_link (fabric_at st).a.table) || not (stands the_link (fabric_at st).b.table)) ≡ false
    by-stage NoLink e = cc
    by-stage (Begun s) e = cc
    by-stage (Made s) e = refl
    by-stage (Asking s qp) e = refl
    by-stage (LiveAtA s qp) e = refl
    by-stage (LiveAtBoth s) e = refl

-- what lands next on the slot
pub lands-made : (setup : Setup) (stage : Stage) (past : List Entry) (dir : Side) → IsAtStage setup stage past → is_made stage ≡ true → landing 1 dir past ≡ head (unlanded the_link dir past)
lands-made setup stage past dir at made =
    ap (λ (f : Fabric). option_and_then (λ link. landing_on link dir past) (link_at 1 f.latest)) at.fabric_is
    ∙ (by-stage stage made ∙ ap (λ b. if b then None else head (unlanded the_link dir past)) (not-dead setup stage past at made))
  where
    by-stage : (st : Stage) → is_made st ≡ true → option_and_then (λ link. landing_on link dir past) (link_at 1 (fabric_at st).latest) ≡ landing_on the_link dir past
    by-stage NoLink e = cc
    by-stage (Begun s) e = cc
    by-stage (Made s) e = refl
    by-stage (Asking s qp) e = refl
    by-stage (LiveAtA s qp) e = refl
    by-stage (LiveAtBoth s) e = refl

pub lands-unmade : (setup : Setup) (stage : Stage) (past : List Entry) (dir : Side) → IsAtStage setup stage past → is_made stage ≡ false → landing 1 dir past ≡ None
lands-unmade setup stage past dir at unmade = ap (λ (f : Fabric). option_and_then (λ link. landing_on link dir past) (link_at 1 f.latest)) at.fabric_is ∙ by-stage stage unmade
  where
    by-stage : (st : Stage) → is_made st ≡ false → option_and_then (λ link. landing_on link dir past) (link_at 1 (fabric_at st).latest) ≡ None
    by-stage NoLink e = refl
    by-stage (Begun s) e = refl
    by-stage (Made s) e = cc
    by-stage (Asking s qp) e = cc
    by-stage (LiveAtA s qp) e = cc
    by-stage (LiveAtBoth s) e = cc

-- a post that is no LLC message
lands-none : (p : Post) → llc_of p ≡ None → (x : Side) (past : List Entry) (f : Fabric) → lands (Some p) x past f ≡ f
lands-none (Write from link key address len) e x past f = refl
lands-none (Cdc from link m) e x past f = refl
lands-none (Llc from link m) e x past f = cc
lands-none (Clc from s link m) e x past f = refl

pub acts-none : (p : Post) → llc_of p ≡ None → (x : Side) (past : List Entry) → act_of x (Some p) past ≡ None
acts-none (Write from link key address len) e x past = refl
acts-none (Cdc from link m) e x past = refl
acts-none (Llc from link m) e x past = cc
acts-none (Clc from s link m) e x past = refl

-- the first that waits leaves, and is no LLC message
first-goes : (cs : List Placed) (c : Placed) → head cs ≡ Some c → llc_of c.post ≡ None → filter_map llc_in (drop 1 cs) ≡ filter_map llc_in cs
first-goes [] c e f = cc
first-goes (d ∷ cs) c e f = let g : llc_of d.post ≡ None = ap (λ (q : Placed). llc_of q.post) (some-is d c e) ∙ f in ap (λ o. cons_option o (filter_map llc_in cs)) (sym g)

-- or it is one
pub first-llc : (cs : List Placed) (c : Placed) (p q : Post) (ps : List Post) → head cs ≡ Some c → llc_of c.post ≡ Some p → filter_map llc_in cs ≡ q ∷ ps → (p ≡ q) × (filter_map llc_in (drop 1 cs) ≡ ps)
first-llc [] c p q ps e f g = cc
first-llc (d ∷ cs) c p q ps e f g =
    let h : llc_of d.post ≡ Some p = ap (λ (r : Placed). llc_of r.post) (some-is d c e) ∙ f in
    let all : p ∷ filter_map llc_in cs ≡ q ∷ ps = ap (λ o. cons_option o (filter_map llc_in cs)) (sym h) ∙ g in
    (first all, rest all)
  where
    first : p ∷ filter_map llc_in cs ≡ q ∷ ps → p ≡ q
    first e = cc

    rest : p ∷ filter_map llc_in cs ≡ q ∷ ps → filter_map llc_in cs ≡ ps
    rest e = cc

pub no-llc-first : (cs : List Placed) (c : Placed) (p : Post) → head cs ≡ Some c → llc_of c.post ≡ Some p → filter_map llc_in cs ≡ [] → ⊥
no-llc-first [] c p e f g = cc
no-llc-first (d ∷ cs) c p e f g =
    let h : llc_of d.post ≡ Some p = ap (λ (r : Placed). llc_of r.post) (some-is d c e) ∙ f in
    let all : p ∷ filter_map llc_in cs ≡ [] = ap (λ o. cons_option o (filter_map llc_in cs)) (sym h) ∙ g in cc

module _ (setup : Setup) (stage : Stage) (actor : ℕ) (older : List Entry) (at : IsAtStage setup stage older) (dir : Side) (c : Placed) (first : head (unlanded the_link dir older) ≡ Some c) where
  -- what waits of LLC messages once it has left
  leaves-data : llc_of c.post ≡ None → (link : LinkId) (x : Side) → filter_map llc_in (drop (if_latest link older (if same_side x dir && (link.slot == 1) then 1 else 0)) (unlanded link x older)) ≡ llc_waiting link x older
  leaves-data none link x = by_latest (is_latest link older) refl
    where
      on-the-link : (y d : Side) → head (unlanded the_link d older) ≡ Some c → filter_map llc_in (drop (if same_side y d && (1 == 1) then 1 else 0) (unlanded the_link y older)) ≡ llc_waiting the_link y older
      on-the-link A A h = first-goes (unlanded the_link A older) c h none
      on-the-link A B h = refl
      on-the-link B A h = refl
      on-the-link B B h = first-goes (unlanded the_link B older) c h none

      by_latest : (b : Bool) → is_latest link older ≡ b → filter_map llc_in (drop (if b then (if same_side x dir && (link.slot == 1) then 1 else 0) else 0) (unlanded link x older)) ≡ llc_waiting link x older
      by_latest false e = refl
      by_latest true e =
          let is : link ≡ the_link = link-is link the_link (latest-is setup stage older at link e) in
          subst (λ (l : LinkId). filter_map llc_in (drop (if same_side x dir && (l.slot == 1) then 1 else 0) (unlanded l x older)) ≡ llc_waiting l x older) (sym is) (on-the-link x dir first)

  -- it leaves, and what waits stays the same on all other links
  pub elsewhere-stays : (link : LinkId) (x : Side) (n : ℕ) → same_link link the_link ≡ false → filter_map llc_in (drop (if_latest link older n) (unlanded link x older)) ≡ []
  elsewhere-stays link x n apart = by_latest (is_latest link older) refl ∙ at.elsewhere link x apart
    where
      by_latest : (b : Bool) → is_latest link older ≡ b → filter_map llc_in (drop (if b then n else 0) (unlanded link x older)) ≡ llc_waiting link x older
      by_latest false e = refl
      by_latest true e = let is = latest-is setup stage older at link e in cc

-- a write or a CDC message lands, and nothing moves
pub quiet-landed : (setup : Setup) (stage : Stage) (actor : ℕ) (older : List Entry) (dir : Side) (c : Placed) → IsAtStage setup stage older → head (unlanded the_link dir older) ≡ Some c → llc_of c.post ≡ None
    → IsQuiet (entry-of actor (Deliver 1 dir) (Landed c.at) []) older
quiet-landed setup stage actor older A c at first none =
    let known : post_at c.at older ≡ Some c.post = first-waiting-in the_link A older c first in
    quiet-by actor older (Deliver 1 A) (Landed c.at) (λ b. refl) (λ link. refl) (ap (λ o. lands o B older (fabric older)) known ∙ lands-none c.post none B older (fabric older))
    (record { acts = refl; up = λ s. refl; early = λ s state. refl; book = λ b. refl }) (record { acts = ap (λ o. act_of B o older) known ∙ acts-none c.post none B older; up = λ s. refl; early = λ s state. refl; book = λ b. refl })
    (λ x s. refl) (λ s. refl) (λ s. refl) (λ link x. leaves-data setup stage actor older at A c first none link x)
quiet-landed setup stage actor older B c at first none =
    let known : post_at c.at older ≡ Some c.post = first-waiting-in the_link B older c first in
    quiet-by actor older (Deliver 1 B) (Landed c.at) (λ b. refl) (λ link. refl) (ap (λ o. lands o A older (fabric older)) known ∙ lands-none c.post none A older (fabric older))
    (record { acts = ap (λ o. act_of A o older) known ∙ acts-none c.post none A older; up = λ s. refl; early = λ s state. refl; book = λ b. refl }) (record { acts = refl; up = λ s. refl; early = λ s state. refl; book = λ b. refl })
    (λ x s. refl) (λ s. refl) (λ s. refl) (λ link x. leaves-data setup stage actor older at B c first none link x)

pub quiet-dropped : (setup : Setup) (stage : Stage) (actor : ℕ) (older : List Entry) (dir : Side) (c : Placed) (token : ℕ) → IsAtStage setup stage older → head (unlanded the_link dir older) ≡ Some c → llc_of c.post ≡ None
    → IsQuiet (entry-of actor (Deliver 1 dir) (Dropped token) []) older
quiet-dropped setup stage actor older A c token at first none =
    quiet-by actor older (Deliver 1 A) (Dropped token) (λ b. refl) (λ link. refl) refl (record { acts = refl; up = λ s. refl; early = λ s state. refl; book = λ b. refl }) (record { acts = refl; up = λ s. refl; early = λ s state. refl; book = λ b. refl })
    (λ x s. refl) (λ s. refl) (λ s. refl) (λ link x. leaves-data setup stage actor older at A c first none link x)
quiet-dropped setup stage actor older B c token at first none =
    quiet-by actor older (Deliver 1 B) (Dropped token) (λ b. refl) (λ link. refl) refl (record { acts = refl; up = λ s. refl; early = λ s state. refl; book = λ b. refl }) (record { acts = refl; up = λ s. refl; early = λ s state. refl; book = λ b. refl })
    (λ x s. refl) (λ s. refl) (λ s. refl) (λ link x. leaves-data setup stage actor older at B c first none link x)
