-- A wire and an end keep step: what is posted comes behind, what lands goes over from one list to the other, what completes leaves.
use Rattle.std.proofs.Common.{◌≡◌, ◌∙◌, ◌==◌, ℕ, ◌+◌, Bool, true, false, List, [], ◌∷◌, ◌++◌, take, drop, map, filter, filter_map, refl, ap, sym, ◌&&◌, true≢false, append-nil}
use Rattle.std.specs.Prelude.{None, cond}
use Rattle.std.specs.List.{cons_option}
use Rattle.std.proofs.lemmas.Bool.{eq-eqb}
use Rattle.std.proofs.lemmas.List.{map-append}
use Rattle.std.proofs.lemmas.List.Elements.{filter_map-append}
use Rattle.smc_num.specs.declared.Side.{Side}
use Rattle.smc_num.specs.declared.LinkId.{LinkId}
use Rattle.smc_num.specs.Names.{same_side, same_link}
use Rattle.cdc_wire.specs.declared.CdcMessage.{CdcMessage}
use Rattle.pipe_model.specs.declared.post.Post.{Post}
use Rattle.pipe_model.specs.declared.post.Post.TheVariants.{Write, Cdc, Llc, Clc}
use Rattle.pipe_model.specs.declared.post.Placed.{Placed}
use Rattle.pipe_model.specs.declared.entry.Entry.{Entry}
use Rattle.pipe_model.specs.History.{next_number, numbered}
use Rattle.pipe_model.specs.Wires.{is_on, completes_later, unlanded, uncompleted}
use Rattle.world_core.specs.Wired.{cdc_under, if_meant, cdcs}
use Rattle.world_core.specs.WireSteps.{leaving, landing_now, completing_now, Stays, LandsNow, CompletesNow, IsCdcOn, EachPost}

pub drop-none : {X : Type 0} (xs : List X) → drop 0 xs ≡ xs
drop-none [] = refl
drop-none (x ∷ xs) = refl

pub take-none : {X : Type 0} (xs : List X) → take 0 xs ≡ []
take-none [] = refl
take-none (x ∷ xs) = refl

-- the CDC messages under a token among posts
pub cdcs-append : (x : Side) (token : ℕ) (ps qs : List Placed) → cdcs x token (ps ++ qs) ≡ cdcs x token ps ++ cdcs x token qs
cdcs-append x token ps qs = ap (λ posts. filter_map (cdc_under x token) posts) (map-append (λ c. c.post) ps qs) ∙ filter_map-append (cdc_under x token) (map (λ c. c.post) ps) (map (λ c. c.post) qs)

pub same-link : (link : LinkId) → same_link link link ≡ true
same-link link = by (link.group == link.group) (link.slot == link.slot) (link.incarnation == link.incarnation) (eq-eqb link.group link.group refl) (eq-eqb link.slot link.slot refl) (eq-eqb link.incarnation link.incarnation refl)
  where
    by : (a b c : Bool) → a ≡ true → b ≡ true → c ≡ true → (a && (b && c)) ≡ true
    by a b c p q r = rw (p, q, r) refl

-- a CDC message that is not on the wire is not that side's
on-by : (x : Side) (token : ℕ) (link : LinkId) (m : CdcMessage) (from : Side) (l : LinkId) (on : Bool) (c : Placed) (ms : List CdcMessage) (ps : List Placed) → l ≡ link → is_on link x (Cdc from l m) ≡ on → c.post ≡ Cdc from l m → cdcs x token ps ≡ ms →
    cdcs x token (cond on (c ∷ ps) ps) ≡ cons_option (cdc_under x token (Cdc from l m)) ms
on-by x token link m from l true c ms ps e i p f = ap (λ post. cons_option (cdc_under x token post) (cdcs x token ps)) p ∙ ap (λ q. cons_option (cdc_under x token (Cdc from l m)) q) f
on-by x token link m from l false c ms ps e i p f =
    f ∙ ap (λ o. cons_option o ms) (sym (ap (λ b. if_meant (b && (token == m.token)) m) (not-from (same_side x from) (same_link link l) i (ap (λ k. same_link link k) e ∙ same-link link))))
  where
    not-from : (a b : Bool) → (a && b) ≡ false → b ≡ true → a ≡ false
    not-from true b p q = absurd (true≢false (sym q ∙ p))
    not-from false b p q = refl

either-way : (x : Side) (token : ℕ) (on : Bool) (c : Placed) (ms : List CdcMessage) (ps : List Placed) → cdc_under x token c.post ≡ None → cdcs x token ps ≡ ms → cdcs x token (cond on (c ∷ ps) ps) ≡ ms
either-way x token true c ms ps n f = ap (λ o. cons_option o (cdcs x token ps)) n ∙ f
either-way x token false c ms ps n f = f

-- the new posts on a wire have the CDC messages of the entry
pub cdcs-new : (x : Side) (token : ℕ) (link : LinkId) (entry first : ℕ) (posts : List Post) → EachPost (IsCdcOn link) posts → cdcs x token (filter (λ c. is_on link x c.post) (numbered entry first posts)) ≡ filter_map (cdc_under x token) posts
cdcs-new x token link entry first [] o = refl
cdcs-new x token link entry first (Write from l key address len ∷ posts) o =
    either-way x token (is_on link x (Write from l key address len)) (record { at = record { entry = entry; post = first }; post = Write from l key address len }) _ _ refl (cdcs-new x token link entry (first + 1) posts o.1)
cdcs-new x token link entry first (Llc from l m ∷ posts) o =
    either-way x token (is_on link x (Llc from l m)) (record { at = record { entry = entry; post = first }; post = Llc from l m }) _ _ refl (cdcs-new x token link entry (first + 1) posts o.1)
cdcs-new x token link entry first (Clc from s l m ∷ posts) o =
    either-way x token (is_on link x (Clc from s l m)) (record { at = record { entry = entry; post = first }; post = Clc from s l m }) _ _ refl (cdcs-new x token link entry (first + 1) posts o.1)
cdcs-new x token link entry first (Cdc from l m ∷ posts) o =
    on-by x token link m from l (is_on link x (Cdc from l m)) (record { at = record { entry = entry; post = first }; post = Cdc from l m }) _ _ o.0 refl refl (cdcs-new x token link entry (first + 1) posts o.1)

-- a post that lands goes over, where it is a CDC message
one-later : (x : Side) (token : ℕ) (c : Placed) (post : Post) → c.post ≡ post → cdcs x token (filter (λ d. completes_later d.post) (c ∷ [])) ≡ cons_option (cdc_under x token post) []
one-later x token c (Write from l key address len) e = ap (λ p. cdcs x token (cond (completes_later p) (c ∷ []) [])) e ∙ ap (λ p. cons_option (cdc_under x token p) []) e
one-later x token c (Cdc from l m) e = ap (λ p. cdcs x token (cond (completes_later p) (c ∷ []) [])) e ∙ ap (λ p. cons_option (cdc_under x token p) []) e
one-later x token c (Llc from l m) e = ap (λ p. cdcs x token (cond (completes_later p) (c ∷ []) [])) e
one-later x token c (Clc from s l m) e = ap (λ p. cdcs x token (cond (completes_later p) (c ∷ []) [])) e ∙ ap (λ p. cons_option (cdc_under x token p) []) e

module _ (x : Side) (token : ℕ) (link : LinkId) (e : Entry) (past : List Entry) (on : EachPost (IsCdcOn link) e.posts) where
  abbrev News : List CdcMessage
  News = filter_map (cdc_under x token) e.posts

  unlanded-by : (n : ℕ) (left : List Placed) → drop (leaving link x e past) (unlanded link x past) ≡ left → cdcs x token (unlanded link x (e ∷ past)) ≡ cdcs x token left ++ News
  unlanded-by n left d =
      ap (λ ps. cdcs x token (ps ++ filter (λ c. is_on link x c.post) (numbered (next_number past) 1 e.posts))) d ∙
      cdcs-append x token left (filter (λ c. is_on link x c.post) (numbered (next_number past) 1 e.posts)) ∙
      ap (λ ms. cdcs x token left ++ ms) (cdcs-new x token link (next_number past) 1 e.posts on)

  uncompleted-by : (left over : List Placed) → drop (completing_now link x e past) (uncompleted link x past) ≡ left → take (landing_now link x e past) (unlanded link x past) ≡ over →
      cdcs x token (uncompleted link x (e ∷ past)) ≡ cdcs x token left ++ cdcs x token (filter (λ c. completes_later c.post) over)
  uncompleted-by left over d f =
      ap (λ ps. cdcs x token (ps ++ filter (λ c. completes_later c.post) (take (landing_now link x e past) (unlanded link x past)))) d ∙
      ap (λ ps. cdcs x token (left ++ filter (λ c. completes_later c.post) ps)) f ∙
      cdcs-append x token left (filter (λ c. completes_later c.post) over)

  pub stays-unlanded : Stays link x e past → cdcs x token (unlanded link x (e ∷ past)) ≡ cdcs x token (unlanded link x past) ++ News
  stays-unlanded s = unlanded-by 0 (unlanded link x past) (ap (λ n. drop n (unlanded link x past)) s.leaves ∙ drop-none (unlanded link x past))

  pub stays-uncompleted : Stays link x e past → cdcs x token (uncompleted link x (e ∷ past)) ≡ cdcs x token (uncompleted link x past)
  stays-uncompleted s =
      uncompleted-by (uncompleted link x past) [] (ap (λ n. drop n (uncompleted link x past)) s.completes ∙ drop-none (uncompleted link x past)) (ap (λ n. take n (unlanded link x past)) s.lands ∙ take-none (unlanded link x past)) ∙
      append-nil (cdcs x token (uncompleted link x past))

  pub lands-unlanded : (l : LandsNow link x e past) → cdcs x token (unlanded link x (e ∷ past)) ≡ cdcs x token l.rest ++ News
  lands-unlanded l = unlanded-by 0 l.rest (ap (λ n. drop n (unlanded link x past)) l.leaves ∙ ap (λ ps. drop 1 ps) l.waiting)

  pub lands-uncompleted : (l : LandsNow link x e past) → cdcs x token (uncompleted link x (e ∷ past)) ≡ cdcs x token (uncompleted link x past) ++ cons_option (cdc_under x token l.first.post) []
  lands-uncompleted l =
      uncompleted-by (uncompleted link x past) (l.first ∷ []) (ap (λ n. drop n (uncompleted link x past)) l.completes ∙ drop-none (uncompleted link x past))
      (ap (λ n. take n (unlanded link x past)) l.lands ∙ ap (λ ps. take 1 ps) l.waiting ∙ ap (λ ps. l.first ∷ ps) (take-none l.rest)) ∙
      ap (λ ms. cdcs x token (uncompleted link x past) ++ ms) (one-later x token l.first l.first.post refl)

  pub completes-unlanded : (l : CompletesNow link x e past) → cdcs x token (unlanded link x (e ∷ past)) ≡ cdcs x token (unlanded link x past) ++ News
  completes-unlanded l = unlanded-by 0 (unlanded link x past) (ap (λ n. drop n (unlanded link x past)) l.leaves ∙ drop-none (unlanded link x past))

  pub completes-uncompleted : (l : CompletesNow link x e past) → cdcs x token (uncompleted link x (e ∷ past)) ≡ cdcs x token l.rest
  completes-uncompleted l =
      uncompleted-by l.rest [] (ap (λ n. drop n (uncompleted link x past)) l.completes ∙ ap (λ ps. drop 1 ps) l.waiting) (ap (λ n. take n (unlanded link x past)) l.lands ∙ take-none (unlanded link x past)) ∙
      append-nil (cdcs x token l.rest)
