mod Trips
