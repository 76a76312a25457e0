mod TreeMaps
mod Places
mod Merges
mod Tallies
mod Picking
mod Choosing
mod ChoiceOfAll
