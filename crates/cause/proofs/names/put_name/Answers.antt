-- Each arm puts the name at its place.
use Rattle.cause.proofs.Places.{at_place, last_place}
use Rattle.cause.proofs.names.put_name.Goals as goal

pub returns-in-0 : goal.returns-in-0
returns-in-0 c = at_place c.in-0.is c.put_text.ensures

pub returns-in-1 : goal.returns-in-1
returns-in-1 c = at_place c.in-1.is c.put_text-in-1.ensures

pub returns-in-2 : goal.returns-in-2
returns-in-2 c = at_place c.in-2.is c.put_text-in-2.ensures

pub returns-in-3 : goal.returns-in-3
returns-in-3 c = at_place c.in-3.is c.put_text-in-3.ensures

pub returns-in-4 : goal.returns-in-4
returns-in-4 c = at_place c.in-4.is c.put_text-in-4.ensures

pub returns-in-5 : goal.returns-in-5
returns-in-5 c = at_place c.in-5.is c.put_text-in-5.ensures

pub returns-in-6 : goal.returns-in-6
returns-in-6 c = at_place c.in-6.is c.put_text-in-6.ensures

pub returns-in-7 : goal.returns-in-7
returns-in-7 c = at_place c.in-7.is c.put_text-in-7.ensures

pub returns-in-8 : goal.returns-in-8
returns-in-8 c = at_place c.in-8.is c.put_text-in-8.ensures

pub returns-in-9 : goal.returns-in-9
returns-in-9 c = at_place c.in-9.is c.put_text-in-9.ensures

pub returns-in-10 : goal.returns-in-10
returns-in-10 c = at_place c.in-10.is c.put_text-in-10.ensures

pub returns-in-11 : goal.returns-in-11
returns-in-11 c = at_place c.in-11.is c.put_text-in-11.ensures

pub returns-in-12 : goal.returns-in-12
returns-in-12 c = at_place c.in-12.is c.put_text-in-12.ensures

pub returns-in-13 : goal.returns-in-13
returns-in-13 c = at_place c.in-13.is c.put_text-in-13.ensures

pub returns-in-14 : goal.returns-in-14
returns-in-14 c = at_place c.in-14.is c.put_text-in-14.ensures

pub returns-in-15 : goal.returns-in-15
returns-in-15 c = at_place c.in-15.is c.put_text-in-15.ensures

pub returns-in-16 : goal.returns-in-16
returns-in-16 c = at_place c.in-16.is c.put_text-in-16.ensures

pub returns-in-17 : goal.returns-in-17
returns-in-17 c = at_place c.in-17.is c.put_text-in-17.ensures

pub returns-in-18 : goal.returns-in-18
returns-in-18 c = at_place c.in-18.is c.put_text-in-18.ensures

pub returns-in-19 : goal.returns-in-19
returns-in-19 c = at_place c.in-19.is c.put_text-in-19.ensures

pub returns-in_default : goal.returns-in_default
returns-in_default c =
    at_place (last_place 20 _ c.requires.0 c.in_default.in_default-own.rest) c.put_text-in_default.ensures
