-- Each part by its number. Assumes nothing.
use Rattle.std.proofs.Common.{◌≤◌, ◌<◌, arith}
use Rattle.base.proofs.Kept.{sound_long}
use Rattle.file_out_presences.proofs.PutLaws.{put_front}
use Rattle.file_out.specs.Parts.{count_bytes}
use Rattle.file_out.proofs.PutLaws.{put_as, room_as}
use Rattle.file_out.proofs.ShownLaws.{is_sdss, is_types, is_parents, is_count, is_presences, is_applications, is_ends}
use Rattle.file_out.proofs.part.Goals as goal

pub put-requires-clause-width_nonzero : goal.put-requires-clause-width_nonzero
put-requires-clause-width_nonzero c = let long = sound_long c.requires.sound in (omega arith, omega arith)

pub put-requires-clause-n_in_bounds : goal.put-requires-clause-n_in_bounds
put-requires-clause-n_in_bounds c = room_as _ (is_sdss c.requires.sound _ c.in-0.is) c.requires.j_in_bounds

pub put-requires-in-1-clause-width_nonzero : goal.put-requires-in-1-clause-width_nonzero
put-requires-in-1-clause-width_nonzero c = let long = sound_long c.requires.sound in (omega arith, omega arith)

pub put-requires-in-1-clause-n_in_bounds : goal.put-requires-in-1-clause-n_in_bounds
put-requires-in-1-clause-n_in_bounds c = room_as _ (is_types c.requires.sound _ c.in-1.is) c.requires.j_in_bounds

pub put-requires-in-2-clause-base_in_bounds : goal.put-requires-in-2-clause-base_in_bounds
put-requires-in-2-clause-base_in_bounds c = room_as _ (is_parents c.requires.sound _ c.in-2.is) c.requires.j_in_bounds

pub put_count-requires-clause-in_bounds : goal.put_count-requires-clause-in_bounds
unfolding count_bytes
put_count-requires-clause-in_bounds c =
    let room = room_as _ (is_count c.requires.sound _ c.count.ensures.is c.in-3.is) c.requires.j_in_bounds in omega arith

pub put-requires-in-20-clause-n_bound : goal.put-requires-in-20-clause-n_bound
put-requires-in-20-clause-n_bound c =
    let long = sound_long c.requires.sound in
    let many = c.applications.ensures.fits in
    (omega arith, omega arith)

pub put-requires-in-20-clause-width_in_bounds : goal.put-requires-in-20-clause-width_in_bounds
put-requires-in-20-clause-width_in_bounds c =
    room_as _ (is_applications c.requires.sound _ c.applications.ensures.is c.in-20.is) c.requires.j_in_bounds

pub put-requires-in-21-clause-n_bound : goal.put-requires-in-21-clause-n_bound
put-requires-in-21-clause-n_bound c =
    let long = sound_long c.requires.sound in
    let many = c.ends.ensures.fits in
    (omega arith, omega arith)

pub put-requires-in-21-clause-width_in_bounds : goal.put-requires-in-21-clause-width_in_bounds
put-requires-in-21-clause-width_in_bounds c = room_as _ (is_ends c.requires.sound _ c.ends.ensures.is c.in-21.is) c.requires.j_in_bounds

pub presences_in-requires-clause-d_in_bounds : goal.presences_in-requires-clause-d_in_bounds
presences_in-requires-clause-d_in_bounds c =
    let low : 4 ≤ c.args.j = omega arith in
    let high : c.args.j < 20 = omega arith in
    room_as _ (is_presences c.requires.sound _ low high) c.requires.j_in_bounds

pub returns-in-0 : goal.returns-in-0
returns-in-0 c = put_as (is_sdss c.requires.sound _ c.in-0.is) c.put.ensures

pub returns-in-1 : goal.returns-in-1
returns-in-1 c = put_as (is_types c.requires.sound _ c.in-1.is) c.put-in-1.ensures

pub returns-in-2 : goal.returns-in-2
returns-in-2 c = put_as (is_parents c.requires.sound _ c.in-2.is) c.put-in-2.ensures

pub returns-in-3 : goal.returns-in-3
returns-in-3 c =
    put_as (is_count c.requires.sound _ c.count.ensures.is c.in-3.is) (put_front c.put_count.ensures.long c.put_count.ensures.is)

pub returns-in-20 : goal.returns-in-20
returns-in-20 c = put_as (is_applications c.requires.sound _ c.applications.ensures.is c.in-20.is) c.put-in-20.ensures

pub returns-in-21 : goal.returns-in-21
returns-in-21 c = put_as (is_ends c.requires.sound _ c.ends.ensures.is c.in-21.is) c.put-in-21.ensures

pub returns-in_default : goal.returns-in_default
returns-in_default c =
    let low : 4 ≤ c.args.j = omega arith in
    let high : c.args.j < 20 = omega arith in
    put_as (is_presences c.requires.sound _ low high) c.presences_in.ensures
