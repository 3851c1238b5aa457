-- What an entry does to the messages of any kind under way: entries that take nothing from a wire, swallows, and deliveries.
use Rattle.std.proofs.Common.{Bool, List, None, Some, [], ap, drop, eqb-true, false, if◌then◌else◌, inl, inr, not, refl, subst, sym, true, ℕ, ◌&&◌, ◌++◌, ◌==◌, ◌∙◌, ◌∷◌, ◌≡◌, ◌⊎◌}
use Rattle.std.specs.Prelude.{Option, nat_lt, option_and_then}
use Rattle.std.specs.Option.{option_or}
use Rattle.pipe_model.specs.declared.reply.Reply.TheVariants.{Idle}
use Rattle.pipe_model.specs.Wires.{swallows}
use Rattle.pipe_model.specs.declared.post.Post.TheVariants.{Clc, Write}
use Rattle.history_laws.specs.Words.{Cdc, Deliver, Entry, Event, LinkId, Llc, Placed, Post, Reply, Side, Swallow, completed_told, fabric, head, if_latest, is_cut, is_dead, is_latest, is_nil, is_on, latest, leaves, next_number, passes, same_link, same_side, some_reported, swallow_limit, swallowed, swallowed_on, uncompleted, unlanded}
use Rattle.history_laws.proofs.Basics.{link-is, none-is, some-is}
use Rattle.link_laws.specs.Linked.{Under, carried_on}
use Rattle.link_laws.specs.UnderWay.{AreCarriedOf, HasFlows, HasOneOf, kind_in, kind_messages, kind_of, living}
use Rattle.link_laws.proofs.UnderWay.WireStep.{Grows, IsFree, alive-is, wires-after}
use Rattle.link_laws.proofs.UnderWay.Step.{made-links}
use Rattle.link_laws.proofs.UnderWay.Carried.{landed-is, posted-on}
use Rattle.link_laws.proofs.UnderWay.PostKinds.{HasNoLlc, kind-before, one-before}
use Rattle.link_laws.proofs.UnderWay.Entries.{entry_of, none-leaves}
use Rattle.link_laws.proofs.Sound.{true-not-false}
use Rattle.link_laws.proofs.UnderWay.Places.{IsLanding, own-message}
use Rattle.link_laws.proofs.UnderWay.Leaves.{leaves-carried, left_after}

-- what an entry leaves of a kind under way, and what it posts of it
pub record Wired (kind : Under → Bool) (e : Entry) (past : List Entry) (under left new : Option Under) : Type 0 where
  pub kept : (w : Under) → left ≡ Some w → under ≡ Some w
  pub stays : (l : LinkId) (x : Side) → is_dead l past ≡ false → kind_messages kind (drop (if_latest l past (leaves x l.slot e.event e.reply)) (unlanded l x past)) ≡ carried_on l x left
  pub one : HasOneOf kind e.posts
  pub posted : kind_in kind e.posts ≡ new
  pub free : IsFree (e ∷ past) left new

module _ (kind : Under → Bool) (past : List Entry) (u : Option Under) (carried : AreCarriedOf kind past u) where
  -- the wires after it
  pub wired-after : (all : HasFlows past) (e : Entry) (left new : Option Under) → Grows (fabric past) (fabric (e ∷ past)) → Wired kind e past u left new → AreCarriedOf kind (e ∷ past) (living (e ∷ past) (option_or new left))
  wired-after all e left new grows w = wires-after kind e past grows all.empty (made-links past all.under all.linked) left new (λ v e. carried.alive v (w.kept v e)) w.stays
      (λ l x alive. posted-on kind l x (next_number past) 1 e.posts w.one ∙ ap (λ u. carried_on l x u) w.posted) w.free

  -- nothing leaves a wire
  pub wired-changed : (event : Event) (reply : Reply) (ps : List Post) → ((x : Side) (k : ℕ) → leaves x k event reply ≡ 0) → HasOneOf kind ps → (kind_in kind ps ≡ None) ⊎ (u ≡ None)
      → (actor : ℕ) (cs : List Post) → HasNoLlc cs → Wired kind (entry_of actor event reply (ps ++ cs)) past u u (kind_in kind ps)
  wired-changed event reply ps none one free actor cs bare = record {
    kept = λ w e. e;
    stays = λ l x alive. ap (λ n. kind_messages kind (drop n (unlanded l x past))) (ap (λ n. if_latest l past n) (none x l.slot) ∙ none-leaves (is_latest l past)) ∙ carried.carried l x alive;
    one = one-before kind ps cs one bare;
    posted = kind-before kind ps cs bare;
    free = elim free [ inl h ↦ inl h | inr h ↦ inr (λ w e. absurd (none-is w (sym h ∙ e))) ];
  }

  -- what is swallowed was on a cut link
  pub wired-swallow : (slot : ℕ) (dir : Side) (actor : ℕ) (cs : List Post) → HasNoLlc cs → Wired kind (entry_of actor (Swallow slot dir) (completed_told (swallowed slot dir past)) cs) past u u None
  wired-swallow slot dir actor cs bare = by (latest slot past) refl
    where
      idle : Wired kind (entry_of actor (Swallow slot dir) Idle cs) past u u None
      idle = wired-changed (Swallow slot dir) Idle [] (λ x k. refl) tt (inl refl) actor cs bare

      by : (o : Option LinkId) → latest slot past ≡ o → Wired kind (entry_of actor (Swallow slot dir) (completed_told (option_and_then (λ link. swallowed_on link dir past) o)) cs) past u u None
      by None e = idle
      by (Some l0) e = cut (is_cut l0 past) (not (some_reported l0 past)) (is_nil (uncompleted l0 dir past) && nat_lt (swallows past) swallow_limit) refl
        where
          cut : (b c d : Bool) → is_cut l0 past ≡ b → Wired kind (entry_of actor (Swallow slot dir) (completed_told (if (b && c) && d then head (unlanded l0 dir past) else None)) cs) past u u None
          cut false c d f = idle
          cut true false d f = idle
          cut true true false f = idle
          cut true true true f = at (head (unlanded l0 dir past))
            where
              other-link : (l : LinkId) → is_dead l past ≡ false → (l.slot == slot) ≡ true → is_latest l past ≡ false
              other-link l alive s = ap (λ o. passes (same_link l) o) (ap (λ k. latest k past) (eqb-true l.slot slot s) ∙ e) ∙ apart (same_link l l0) refl
                where
                  apart : (b : Bool) → same_link l l0 ≡ b → b ≡ false
                  apart true p = let h = alive-is l past alive in absurd (true-not-false (is_cut l past) (ap (λ l. is_cut l past) (link-is l l0 p) ∙ f) h.0)
                  apart false p = refl

              never : (l : LinkId) → is_dead l past ≡ false → (b d : Bool) → (l.slot == slot) ≡ d → if_latest l past (if b && d then 1 else 0) ≡ 0
              never l alive true true s = ap (λ b. if b then 1 else 0) (other-link l alive s)
              never l alive true false s = none-leaves (is_latest l past)
              never l alive false d s = none-leaves (is_latest l past)

              at : (o : Option Placed) → Wired kind (entry_of actor (Swallow slot dir) (completed_told o) cs) past u u None
              at None = idle
              at (Some c) = let i : Wired kind (entry_of actor (Swallow slot dir) Idle cs) past u u None = idle in record {
                kept = λ w e. e;
                stays = λ l x alive. ap (λ n. kind_messages kind (drop n (unlanded l x past))) (never l alive (same_side x dir) (l.slot == slot) refl) ∙ carried.carried l x alive;
                one = i.one;
                posted = i.posted;
                free = inl refl;
              }

  -- a post lands or is dropped
  module _ (slot : ℕ) (dir : Side) (c : Placed) (land : IsLanding slot dir past c) where
    -- what lands of the kind is of its side, on its link
    pub own : (v : Under) → kind_of kind c.post ≡ Some v → (v.from ≡ dir) × (v.link ≡ land.link)
    own v e = by c.post refl e
      where
        by : (p : Post) → c.post ≡ p → kind_of kind p ≡ Some v → (v.from ≡ dir) × (v.link ≡ land.link)
        by (Write from link key address len) is e = absurd (none-is v e)
        by (Cdc from link m) is e = absurd (none-is v e)
        by (Clc from s link m) is e = absurd (none-is v e)
        by (Llc from link m) is e = flip (kind (record { from = from; link = link; message = m })) e
          where
            ours : (from ≡ dir) × (link ≡ land.link)
            ours = own-message land.link dir from link m (ap (λ p. is_on land.link dir p) (sym is) ∙ land.on)

            flip : (b : Bool) → (if b then Some (record { from = from; link = link; message = m }) else None) ≡ Some v → (v.from ≡ dir) × (v.link ≡ land.link)
            flip true e = let s = some-is (record { from = from; link = link; message = m }) v e in (ap (λ (w : Under). w.from) (sym s) ∙ ours.0, ap (λ (w : Under). w.link) (sym s) ∙ ours.1)
            flip false e = absurd (none-is v e)

    -- of the kind nothing is under way but it
    pub landed-under : (v : Under) → kind_of kind c.post ≡ Some v → u ≡ Some v
    landed-under v e = let w = own v e in let h = landed-is kind land.link dir u c land.rest v e w.0 w.1 (ap (λ (cs : List Placed). kind_messages kind cs) (sym land.front) ∙ carried.carried land.link dir land.alive) in h.0

    -- what was under way is gone, where it was that
    pub wired-landed : (reply : Reply) (ps : List Post) → ((x : Side) (k : ℕ) → leaves x k (Deliver slot dir) reply ≡ (if same_side x dir && (k == slot) then 1 else 0)) → HasOneOf kind ps
        → (kind_in kind ps ≡ None) ⊎ (left_after (kind_of kind c.post) u ≡ None) → (actor : ℕ) (cs : List Post) → HasNoLlc cs → Wired kind (entry_of actor (Deliver slot dir) reply (ps ++ cs)) past u (left_after (kind_of kind c.post) u) (kind_in kind ps)
    wired-landed reply ps out one free actor cs bare = record {
      kept = λ w e. kept (kind_of kind c.post) w e;
      stays = λ l x alive. ap (λ n. kind_messages kind (drop (if_latest l past n) (unlanded l x past))) (out x l.slot)
          ∙ subst (λ k. kind_messages kind (drop (if_latest l past (if same_side x dir && (l.slot == k) then 1 else 0)) (unlanded l x past)) ≡ carried_on l x (left_after (kind_of kind c.post) u)) land.slot_is
          (leaves-carried kind past u carried land.link dir c land.rest land.last land.alive land.front own l x alive);
      one = one-before kind ps cs one bare;
      posted = kind-before kind ps cs bare;
      free = elim free [ inl h ↦ inl h | inr h ↦ inr (λ w e. absurd (none-is w (sym h ∙ e))) ];
    }
      where
        kept : (o : Option Under) (w : Under) → left_after o u ≡ Some w → u ≡ Some w
        kept None w e = e
        kept (Some v) w e = absurd (none-is w e)
