use Rattle.std.proofs.Common.{◌≡◌, ◌∷◌, [], ◌++◌, length, map, refl, sym, ◌∙◌, ap, arith}
use Rattle.std.proofs.lemmas.List.{length-map, map-append}
use Rattle.nx_io.specs.Views.{LinkView, door_view, link_view}
use Rattle.nexus_serve.specs.Views.{session_view}
use Rattle.nexus_serve.proofs.Gathering.{gathered_same, passes_back, sessions_back}
use Rattle.nexus_serve.proofs.gathered.Gathered.take_in.Goals as goal

pub returns-clause-gathered : goal.returns-clause-gathered
returns-clause-gathered g c =
    let link : g.row.D-Link.Denot → LinkView = (link_view g.D.Link.Link) in
    let door = door_view g.D.Door g.D.Link.Link in
    let sessions = c.worker.inside.sessions.items in
    let used = c.worker.inside.used.items in
    let pairs : length (map (session_view link) sessions) ≡ length used = length-map sessions (session_view link) ∙ c.worker.invariant in
    let places_len = c.push_reserved.ensures.len in
    let places_room = c.push_reserved.ensures.capacity in
    rw (← c.self.view_is, ← c.worker.view_is)
    (gathered_same
    (ap (map door) c.push_reserved.ensures.items ∙ map-append door c.self.inside.doors.items (c.worker.inside.door ∷ []))
    c.push_reserved-2.ensures.items
    (ap (map (λ mine. map (session_view link) mine.items)) c.push_reserved-3.ensures.items ∙ map-append (λ mine. map (session_view link) mine.items) c.self.inside.sessions.items (c.worker.inside.sessions ∷ [])
    ∙ ap (λ l. map (λ mine. map (session_view link) mine.items) c.self.inside.sessions.items ++ l ∷ []) (sym (sessions_back (map (session_view link) sessions) used pairs)))
    (ap (map (λ mine. mine.items)) c.push_reserved-4.ensures.items ∙ map-append (λ mine. mine.items) c.self.inside.used.items (c.worker.inside.used ∷ [])
    ∙ ap (λ l. map (λ mine. mine.items) c.self.inside.used.items ++ l ∷ []) (sym (passes_back (map (session_view link) sessions) used pairs)))
    c.push_reserved-5.ensures.items
    refl
    refl
    (omega (arith, places_len, places_room)))
