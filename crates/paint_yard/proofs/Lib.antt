mod Telling
mod Doing
mod Running
mod Offering
