-- Which message is read for a kind.
use Rattle.std.proofs.Common.{◌≡◌, ℕ, ◌==◌, List, Some, ap, option_map, if◌then◌else◌}
use Rattle.pipe_model.specs.declared.post.Post.TheVariants.{Cdc, Llc, Clc}
use Rattle.wire_trace.specs.declared.head.Head.{Head}
use Rattle.wire_trace.specs.Messages.{side_of, link_named, clc_in, llc_in, cdc_in, write_in, post_in}

pub llc_read_there : (h : Head) (bytes : List ℕ) → h.kind ≡ 2 → post_in h bytes ≡ option_map (λ m. Llc (side_of h.side) h.link m) (llc_in bytes)
unfolding post_in
llc_read_there h bytes e =
    ap (λ k. if k == 1 then option_map (λ m. Clc (side_of h.side) h.socket (link_named h.link) m) (clc_in bytes) else
    if k == 2 then option_map (λ m. Llc (side_of h.side) h.link m) (llc_in bytes) else
    if k == 3 then option_map (λ m. Cdc (side_of h.side) h.link m) (cdc_in bytes) else
    Some (write_in h bytes)) e
