-- What pushing to a queue and taking its top make of its line, its marks and its invariants.
use Rattle.std.proofs.Common.{◌≡◌, ℕ, ◌+◌, ◌-◌, ◌%◌, ◌<◌, true, false, not, ◌&&◌, ◌==◌, [], ◌∷◌, ◌++◌, length, slice_index, slice_index_or, set, sym, refl, ap, ◌∙◌, add-one, arith}
use Rattle.std.proofs.lemmas.List.{length-map, map-set, get_or-map}
use Rattle.lists.specs.Stations.{holds, proper}
use Rattle.lists.specs.Ring.{ring_from, numbers_of}
use Rattle.lists.specs.Queues.{line_of}
use Rattle.lists.specs.declared.queue.Queue.{Queue}
use Rattle.lists.specs.declared.station.Station.{Station}
use Rattle.lists.specs.StationsLemmas.{holds-push, holds-rest, proper-parts, proper-top, proper-push, room, marked-in, marked-out}
use Rattle.lists.proofs.Rings.{length-ring, ring-push, ring-top, ring-pop}

module _ (q : Queue) where
  pub length-line : length (line_of q) ≡ q.len
  length-line = length-ring (numbers_of q.ring) q.top q.len

  pub wide : length (numbers_of q.ring) ≡ 1024
  wide = length-map q.ring (λ (s : Station). s.index) ∙ q.fits.0

  -- the station s, which is not in the queue, goes in
  module _ (s : Station) (out : holds (line_of q) s.index ≡ false) where
    pub push-room : q.len < 1024
    push-room = omega (arith, room (line_of q) s.index q.once s.small out, length-line)

    pub bottom-line : ring_from (numbers_of (set q.ring ((q.top + q.len) % 1024) s)) q.top (q.len + 1) ≡ line_of q ++ s.index ∷ []
    bottom-line =
        ap (λ r. ring_from r q.top (q.len + 1)) (map-set (λ (s : Station). s.index) q.ring ((q.top + q.len) % 1024) s)
        ∙ rw add-one (ring-push (numbers_of q.ring) q.top q.len _ s.index wide q.fits.2 push-room refl)

    pub bottom-once : proper (ring_from (numbers_of (set q.ring ((q.top + q.len) % 1024) s)) q.top (q.len + 1)) ≡ true
    bottom-once = ap proper bottom-line ∙ proper-push (line_of q) s.index q.once s.small out

    pub bottom-marks : (k : ℕ) → k < 1024 → slice_index_or (set q.held s.index true) k false ≡ holds (ring_from (numbers_of (set q.ring ((q.top + q.len) % 1024) s)) q.top (q.len + 1)) k
    bottom-marks = marked-in q.held (holds (line_of q)) _ s.index (omega (arith, q.fits.1, s.small)) q.marks (λ k. ap (λ l. holds l k) bottom-line ∙ holds-push (line_of q) s.index k)

    pub top-line : ring_from (numbers_of (set q.ring ((q.top + 1023) % 1024) s)) ((q.top + 1023) % 1024) (q.len + 1) ≡ s.index ∷ line_of q
    top-line =
        ap (λ r. ring_from r ((q.top + 1023) % 1024) (q.len + 1)) (map-set (λ (s : Station). s.index) q.ring ((q.top + 1023) % 1024) s)
        ∙ rw add-one (ring-top (numbers_of q.ring) q.top q.len _ s.index wide q.fits.2 push-room refl)

    pub top-once : proper (ring_from (numbers_of (set q.ring ((q.top + 1023) % 1024) s)) ((q.top + 1023) % 1024) (q.len + 1)) ≡ true
    top-once = ap proper top-line ∙ proper-top s.index (line_of q) q.once s.small out

    pub top-marks : (k : ℕ) → k < 1024 → slice_index_or (set q.held s.index true) k false ≡ holds (ring_from (numbers_of (set q.ring ((q.top + 1023) % 1024) s)) ((q.top + 1023) % 1024) (q.len + 1)) k
    top-marks = marked-in q.held (holds (line_of q)) _ s.index (omega (arith, q.fits.1, s.small)) q.marks (λ k. ap (λ l. holds l k) top-line)

  -- the station that stands at a place of the ring
  pub index-at : (i : ℕ) (d : Station) → i < 1024 → (slice_index_or q.ring i d).index ≡ slice_index (numbers_of q.ring) i
  index-at i d b = sym (get_or-map (λ (s : Station). s.index) q.ring i d 0 (omega (arith, b, q.fits.0)))

  -- the top leaves
  module _ (some : 0 < q.len) (d : Station) where
    pub pop-line : line_of q ≡ (slice_index_or q.ring q.top d).index ∷ ring_from (numbers_of q.ring) ((q.top + 1) % 1024) (q.len - 1)
    pop-line =
        ring-pop (numbers_of q.ring) q.top q.len some
        ∙ ap (λ x. x ∷ ring_from (numbers_of q.ring) ((q.top + 1) % 1024) (q.len - 1)) (sym (index-at q.top d q.fits.2))

    pop-proper : proper ((slice_index_or q.ring q.top d).index ∷ ring_from (numbers_of q.ring) ((q.top + 1) % 1024) (q.len - 1)) ≡ true
    pop-proper = ap proper (sym pop-line) ∙ q.once

    pub pop-once : proper (ring_from (numbers_of q.ring) ((q.top + 1) % 1024) (q.len - 1)) ≡ true
    pop-once = (proper-parts (slice_index_or q.ring q.top d).index (ring_from (numbers_of q.ring) ((q.top + 1) % 1024) (q.len - 1)) pop-proper).2

    pub pop-marks : (k : ℕ) → k < 1024 → slice_index_or (set q.held (slice_index_or q.ring q.top d).index false) k false ≡ holds (ring_from (numbers_of q.ring) ((q.top + 1) % 1024) (q.len - 1)) k
    pop-marks =
        let s = slice_index_or q.ring q.top d in
        marked-out q.held (holds (line_of q)) _ s.index (omega (arith, s.small, q.fits.1)) q.marks
        (λ k. holds-rest s.index _ k pop-proper ∙ ap (λ l. holds l k && not (k == s.index)) (sym pop-line))
