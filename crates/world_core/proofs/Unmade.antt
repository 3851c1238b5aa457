-- Where the one link is not made, nothing of a side is under way on it.
use Rattle.std.proofs.Common.{◌≡◌, ◌∙◌, ◌⊎◌, inl, inr, ℕ, ◌+◌, ◌≤◌, Bool, true, false, List, [], ◌∷◌, ◌++◌, length, map, filter, refl, ap, sym, ◌&&◌, true≢false, arith, length-append, eq-eqb, ◌==◌}
use Rattle.std.specs.Prelude.{Option, Some, None, is_some}
use Rattle.std.specs.List.{cons_option}
use Rattle.smc_num.specs.declared.Side.{Side}
use Rattle.smc_num.specs.declared.Side.TheVariants.{A, B}
use Rattle.smc_num.specs.declared.LinkId.{LinkId}
use Rattle.smc_num.specs.Links.{link_at}
use Rattle.smc_num.specs.Names.{other, same_side, same_link, head}
use Rattle.cdc_wire.specs.declared.CdcMessage.{CdcMessage}
use Rattle.pipe_model.specs.declared.setup.Setup.{Setup}
use Rattle.pipe_model.specs.declared.post.Post.{Post}
use Rattle.pipe_model.specs.declared.post.Post.TheVariants.{Write, Cdc, Llc, Clc}
use Rattle.pipe_model.specs.declared.post.Placed.{Placed}
use Rattle.pipe_model.specs.declared.entry.Entry.{Entry}
use Rattle.pipe_model.specs.Words.{element_size}
use Rattle.pipe_model.specs.History.{Offered, offered}
use Rattle.pipe_model.specs.Fabric.{Fabric, latest}
use Rattle.pipe_model.specs.Wires.{is_on, completes_later, unlanded, uncompleted}
use Rattle.pipe_model.specs.Pipe.{half}
use Rattle.pipe_model.specs.Connections.{is_up, part}
use Rattle.pipe_model.specs.Lending.{terms_of, pipe_of}
use Rattle.world_core.specs.Played.{IsOneLink, IsPlayed}
use Rattle.world_core.specs.OneLink.{Stage, NoLink, Begun, Made, Asking, LiveAtA, LiveAtBoth, fabric_at, waiting_at, the_link, llc_waiting}
use Rattle.world_core.specs.Wired.{cdc_under, if_meant, cdcs, message, IsCarried}
use Rattle.world_core.specs.WireSteps.{EachPlaced}
use Rattle.world_core.specs.Agreement.{HasOffers, IsElse, Agree}
use Rattle.world_core.proofs.Idle.{idle}
use Rattle.world_core.proofs.Parts.{part-open}
use Rattle.world_core.proofs.UpEnds.{pipe-is-up}
use Rattle.world_core.proofs.Agreement.{agrees, lands-nothing, returns-nothing}
use Rattle.world_core.proofs.Heads.{unlanded-there, uncompleted-there, Gave, gave}
use Rattle.world_core.proofs.PlayedWorlds.{played}
use Rattle.world_core.proofs.Handshaken.{shaken, has-offers}
use Rattle.world_core.proofs.LinkFacts.{is_live_at, live-where-up}
use Rattle.world_core.proofs.Batched.{cdc_count, batched-all, count-append, Posts, queue}
use Rattle.world_core.proofs.Counts.{queue-batched, all-under-way}
use Rattle.world_core.proofs.Plain.{and-left}

-- posts of a side on a link among which there is no CDC message under any token
module _ (x : Side) where
  abbrev IsThere : Placed → Type 0
  IsThere c = is_on the_link x c.post ≡ true

  own : (from : Side) (l : LinkId) (m : CdcMessage) → is_on the_link x (Cdc from l m) ≡ true → cdc_under x m.token (Cdc from l m) ≡ Some m
  own from l m there =
      ap (λ b. if_meant (b && (m.token == m.token)) m) (and-left (same_side x from) (same_link the_link l) there) ∙ ap (λ b. if_meant b m) (eq-eqb m.token m.token refl)

  none-of-two : (o : Option CdcMessage) (ms : List CdcMessage) → cons_option o ms ≡ [] → ms ≡ []
  none-of-two None ms e = e
  none-of-two (Some m) ms e = absurd (true≢false (ap (λ ns. is_some (head ns)) e))

  count-none : (cs : List Placed) → EachPlaced IsThere cs → ((token : ℕ) → cdcs x token cs ≡ []) → cdc_count (Posts cs) ≡ 0
  count-none [] there none = refl
  count-none (c ∷ cs) there none = by c.post refl (count-none cs there.1 (λ token. none-of-two (cdc_under x token c.post) (cdcs x token cs) (none token)))
    where
      by : (p : Post) → c.post ≡ p → cdc_count (Posts cs) ≡ 0 → cdc_count (p ∷ Posts cs) ≡ 0
      by (Write from l key address len) e rest = rest
      by (Llc from l m) e rest = rest
      by (Clc from s l m) e rest = rest
      by (Cdc from l m) e rest =
          let is : cdc_under x m.token c.post ≡ Some m = ap (λ q. cdc_under x m.token q) e ∙ own from l m (ap (λ q. is_on the_link x q) (sym e) ∙ there.0) in
          absurd (true≢false (ap (λ (o : Option CdcMessage). is_some (head (cons_option o (cdcs x m.token cs)))) (sym is) ∙ ap (λ ns. is_some (head ns)) (none m.token)))

later-fewer : (ps : List Post) → cdc_count (filter completes_later ps) ≤ cdc_count ps
later-fewer [] = omega arith
later-fewer (Write from l key address len ∷ ps) = later-fewer ps
later-fewer (Cdc from l m ∷ ps) = let a = later-fewer ps in omega (arith, a)
later-fewer (Llc from l m ∷ ps) = later-fewer ps
later-fewer (Clc from s l m ∷ ps) = later-fewer ps

none-long : {X : Type 0} (xs : List X) → length xs ≤ 0 → xs ≡ []
none-long [] e = refl
none-long (x ∷ xs) e = absurd (omega (arith, e))

-- a step at which the link is not made
record IsUnmade (setup : Setup) (stage : Stage) : Type 0 where
  pub down : (x : Side) → is_live_at x stage ≡ false
  pub still : (x : Side) → waiting_at setup x stage ≡ []

down-both : (setup : Setup) (stage : Stage) → is_live_at A stage ≡ false → is_live_at B stage ≡ false → waiting_at setup A stage ≡ [] → waiting_at setup B stage ≡ [] → IsUnmade setup stage
down-both setup stage a b c d = record { down = down; still = still }
  where
    down : (x : Side) → is_live_at x stage ≡ false
    down A = a
    down B = b

    still : (x : Side) → waiting_at setup x stage ≡ []
    still A = c
    still B = d

unmade-at : (setup : Setup) (stage : Stage) → link_at 1 (fabric_at stage).latest ≡ None → IsUnmade setup stage
unmade-at setup NoLink e = down-both setup NoLink refl refl refl refl
unmade-at setup (Begun s) e = down-both setup (Begun s) refl refl refl refl
unmade-at setup (Made s) e = absurd (true≢false (ap (λ (o : Option LinkId). is_some o) e))
unmade-at setup (Asking s qp) e = absurd (true≢false (ap (λ (o : Option LinkId). is_some o) e))
unmade-at setup (LiveAtA s qp) e = absurd (true≢false (ap (λ (o : Option LinkId). is_some o) e))
unmade-at setup (LiveAtBoth s) e = absurd (true≢false (ap (λ (o : Option LinkId). is_some o) e))

-- nothing is under way
pub record IsIdleLink (x : Side) (past : List Entry) : Type 0 where
  pub waiting : unlanded the_link x past ≡ []
  pub landed : uncompleted the_link x past ≡ []

pub idle-link : (setup : Setup) (one : IsOneLink setup) (payload : List ℕ) (x : Side) (past : List Entry) (n : ℕ) → IsPlayed setup payload past n → latest 1 past ≡ None → IsIdleLink x past
idle-link setup one payload x past n p none =
    let a = all-under-way the_link x past in
    let b = batched-all (queue the_link x past) (queue-batched setup one payload x past n p) in
    let c : cdc_count (queue the_link x past) ≡ cdc_count (Posts (uncompleted the_link x past)) + cdc_count (filter completes_later (Posts (unlanded the_link x past))) = count-append (Posts (uncompleted the_link x past)) (filter completes_later (Posts (unlanded the_link x past))) in
    let d = later-fewer (Posts (unlanded the_link x past)) in
    let e : cdc_count (Posts (unlanded the_link x past)) ≡ 0 = count-none x (unlanded the_link x past) (unlanded-there the_link x past) no-landing in
    let f : cdc_count (Posts (uncompleted the_link x past)) ≡ 0 = count-none x (uncompleted the_link x past) (uncompleted-there the_link x past) no-completing in
    let g : length (llc_waiting the_link x past) ≡ 0 = ap (λ ps. length ps) llc in
    let h : length (unlanded the_link x past ++ uncompleted the_link x past) ≡ length (unlanded the_link x past) + length (uncompleted the_link x past) = length-append (unlanded the_link x past) (uncompleted the_link x past) in
    record {
      waiting = none-long (unlanded the_link x past) (omega (arith, a, b, c, d, e, f, g, h));
      landed = none-long (uncompleted the_link x past) (omega (arith, a, b, c, d, e, f, g, h));
    }
  where
    unmade : let w = played setup one payload past n p in IsUnmade setup w.stage
    unmade = let w = played setup one payload past n p in let world = w.world in let at = world.link in unmade-at setup w.stage (ap (λ (f : Fabric). link_at 1 f.latest) (sym at.fabric_is) ∙ none)

    llc : llc_waiting the_link x past ≡ []
    llc = let w = played setup one payload past n p in let world = w.world in let at = world.link in let u = unmade in at.waiting x ∙ u.still x

    down : (s : ℕ) → is_up x s past ≡ false
    down s = by (is_up x s past) refl
      where
        by : (b : Bool) → is_up x s past ≡ b → b ≡ false
        by false e = refl
        by true e = let w = played setup one payload past n p in let u = unmade in sym (live-where-up setup w.stage past w.world x s e) ∙ u.down x

    agree : Agree setup payload past
    agree = agrees setup payload past n p (shaken setup one payload past n p)

    sent : (s : ℕ) → (half x (pipe_of setup payload 1 s past)).sent ≡ []
    sent s = idle (terms_of setup) x (part payload 1 s past) (part-open setup payload 1 s past n p (shaken setup one payload past n p)) (pipe-is-up (terms_of setup) x payload 1 s past ∙ down s)

    offers : HasOffers setup past
    offers = has-offers setup one payload past n p

    no-landing : (token : ℕ) → cdcs x token (unlanded the_link x past) ≡ []
    no-landing token = by (gave setup (other x) token past offers)
      where
        by : Gave (other x) token past ⊎ ((s : ℕ) → IsElse token (offered (other x) s past)) → cdcs x token (unlanded the_link x past) ≡ []
        by (inr f) = let q = agree.strange x in q.landing token f
        by (inl g) =
            let h = g.1 in
            let o : Offered = h.0 in
            let i = h.1 in
            let w : IsCarried (element_size setup) the_link x o.offer.token past (half x (pipe_of setup payload 1 g.0 past)) = agree.carried x g.0 o i.0 in
            ap (λ t. cdcs x t (unlanded the_link x past)) i.1 ∙ w.landing ∙ ap (λ ms. map (message (element_size setup) o.offer.token) ms) (lands-nothing (half x (pipe_of setup payload 1 g.0 past)) (sent g.0))

    no-completing : (token : ℕ) → cdcs x token (uncompleted the_link x past) ≡ []
    no-completing token = by (gave setup (other x) token past offers)
      where
        by : Gave (other x) token past ⊎ ((s : ℕ) → IsElse token (offered (other x) s past)) → cdcs x token (uncompleted the_link x past) ≡ []
        by (inr f) = let q = agree.strange x in q.completing token f
        by (inl g) =
            let h = g.1 in
            let o : Offered = h.0 in
            let i = h.1 in
            let w : IsCarried (element_size setup) the_link x o.offer.token past (half x (pipe_of setup payload 1 g.0 past)) = agree.carried x g.0 o i.0 in
            ap (λ t. cdcs x t (uncompleted the_link x past)) i.1 ∙ w.completing ∙ ap (λ ms. map (message (element_size setup) o.offer.token) ms) (returns-nothing (half x (pipe_of setup payload 1 g.0 past)) (sent g.0))
